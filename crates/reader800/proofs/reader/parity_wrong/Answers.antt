-- `reader800::reader::parity_wrong` meets its contract: the parity of a character is that of the number of its ones, which is computed.
-- Assumes nothing.
use mathlib.Core.Path.{◌≡◌, sym, ap}
use Prim.Native.Nat.{ℕ, ◌%◌, ◌<◌}
use lib.Count.{ones, ones_in}
use Rattle.indexed.proofs.Test.{equal}
use Rattle.register.specs.Parity.{parity, parity_digits}
use Rattle.register.specs.Xor.{◌⊕◌}
use Rattle.reader800.proofs.reader.parity_wrong.Goals as goal

parity-of-ones : (character : ℕ) → character < 512 → parity character ≡ ones character % 2
unfolding parity parity_digits ones ones_in
parity-of-ones = equal 512 parity (λ c. ones c % 2) tt

pub returns : goal.returns
returns c = ap (λ (p : ℕ). p ⊕ 1) (sym (parity-of-ones c.args.character c.requires))
