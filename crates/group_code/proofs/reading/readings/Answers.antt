-- `group_code::reading::readings` meets its contract: every entry is computed.
-- Assumes nothing.
use mathlib.Core.Path.{◌≡◌, refl, sym, ap, ◌∙◌}
use mathlib.Core.Bool.{true, false}
use Rattle.indexed.specs.List.{tabulate, tabulate_from, first_where}
use Rattle.register.specs.Bit.{bit, of_bits}
use Rattle.group_code.specs.Code.{decoded, legal}
use Rattle.group_code.specs.Word.{legal_word, value_of, illegality, mirrored, reversed_word, forward_word, read_of, readings}
use Rattle.group_code.proofs.reading.readings.Goals as goal

pub returns-then-backward : goal.returns-then-backward
unfolding readings read_of forward_word reversed_word mirrored value_of illegality legal_word legal decoded first_where of_bits bit tabulate tabulate_from
returns-then-backward c = let e : readings true ≡ readings true = refl in e ∙ ap readings (sym c.if-backward.true)

pub returns-else-backward : goal.returns-else-backward
unfolding readings read_of forward_word reversed_word mirrored value_of illegality legal_word legal decoded first_where of_bits bit tabulate tabulate_from
returns-else-backward c = let e : readings false ≡ readings false = refl in e ∙ ap readings (sym c.if-backward.false)
