-- Cards on numerals: which way each order is moved to, what the inverse of the standard card is, and at which track a wrong number is told. No law
-- above says which of two ways is which, since each is the other's inverse.
-- Assumes nothing.
use mathlib.Core.List.{List, [], ◌∷◌}
use mathlib.Core.Path.{◌≡◌, refl}
use Prim.Native.Nat.{ℕ}
use Rattle.answer.specs.Answer.{refused}
use Rattle.indexed.specs.List.{tabulate, tabulate_from, first_where, occurrences, total}
use Rattle.register.specs.Bit.{bit, bits_of, of_bits}
use Rattle.track_order.specs.declared.Toward.TheVariants.{Physical, Algebraic}
use Rattle.track_order.specs.Card.{wrong_number, first_wrong}
use Rattle.track_order.specs.Moved.{if_nine_words, if_nine_numbers, if_none_wrong, card_words_answer}
use Rattle.track_order.specs.Order.{standard_card, index_in, inverse, arranged, arranged_map, moved_words, moved_map}

-- algebraic track a at index a: words 10 to 18
abbrev words : List ℕ
words = 10 ∷ 11 ∷ 12 ∷ 13 ∷ 14 ∷ 15 ∷ 16 ∷ 17 ∷ 18 ∷ []

-- physical track 1 has algebraic track 1, and physical track 7 algebraic track 0
pub on_head : (moved_words Physical standard_card words ≡ 11 ∷ 14 ∷ 17 ∷ 18 ∷ 13 ∷ 16 ∷ 10 ∷ 12 ∷ 15 ∷ []) × (moved_map Physical standard_card 1 ≡ 64)
unfolding standard_card arranged arranged_map tabulate tabulate_from bits_of bit of_bits
on_head = (refl, refl)

pub in_code : (moved_words Algebraic standard_card words ≡ 16 ∷ 10 ∷ 17 ∷ 14 ∷ 11 ∷ 18 ∷ 15 ∷ 12 ∷ 13 ∷ []) × (moved_map Algebraic standard_card 1 ≡ 2)
unfolding standard_card inverse index_in first_where arranged arranged_map tabulate tabulate_from bits_of bit of_bits
in_code = (refl, refl)

pub standard_inverse : inverse standard_card ≡ 6 ∷ 0 ∷ 7 ∷ 4 ∷ 1 ∷ 8 ∷ 5 ∷ 2 ∷ 3 ∷ []
unfolding standard_card inverse index_in first_where tabulate tabulate_from
standard_inverse = refl

-- 2 on physical tracks 8 and 9
pub told_at_eight : card_words_answer (1 ∷ 4 ∷ 7 ∷ 8 ∷ 3 ∷ 6 ∷ 0 ∷ 2 ∷ 2 ∷ []) words 9 ≡ refused 11 8
unfolding card_words_answer if_nine_numbers if_nine_words if_none_wrong first_wrong wrong_number first_where occurrences total
told_at_eight = refl

-- 9 on physical track 1
pub told_at_one : card_words_answer (9 ∷ 4 ∷ 7 ∷ 8 ∷ 3 ∷ 6 ∷ 0 ∷ 2 ∷ 5 ∷ []) words 9 ≡ refused 11 1
unfolding card_words_answer if_nine_numbers if_nine_words if_none_wrong first_wrong wrong_number first_where occurrences total
told_at_one = refl
