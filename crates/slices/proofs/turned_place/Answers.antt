-- `slices::turned_place` meets its contract.
-- Assumes nothing.
use Prim.Native.Nat.{◌-◌}
use mathlib.Core.Path.{sym, ap}
use mathlib.Core.Bool.{Bool, cond}
use borrow.Author.Rules.{rules}
use Rattle.slices.specs.Turned.{turned_place}
use Rattle.slices.proofs.turned_place.Goals as goal

pub returns-then-backward : goal.returns-then-backward
unfolding turned_place
returns-then-backward c = let args = c.args in record {
  place = sym (ap (λ (b : Bool). cond b (args.count - 1 - args.k) args.k) c.if-backward.true);
  within = search rules;
}

pub returns-else-backward : goal.returns-else-backward
unfolding turned_place
returns-else-backward c = let args = c.args in record {
  place = sym (ap (λ (b : Bool). cond b (args.count - 1 - args.k) args.k) c.if-backward.false);
  within = search rules;
}
