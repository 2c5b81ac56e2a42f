-- A word as it is read: its value, whether it is legal, and its ten bits the other way round.
-- Assumes nothing.
use Rattle.std.specs.Prelude.{ℕ, ◌+◌, ◌-◌, ◌*◌, ◌/◌, ◌%◌, Bool, cond, ◌&&◌, List, ltb}
use Rattle.indexed.specs.List.{tabulate}
use Rattle.register.specs.Bit.{bit, of_bits}
use Rattle.group_code.specs.Code.{decoded, legal}

-- both halves are codes
unfoldable pub legal_word : ℕ → Bool
legal_word word = legal (word / 32) && legal (word % 32)

-- the track byte that a word records; of an illegal word no more is known than that it is a byte
unfoldable pub value_of : ℕ → ℕ
value_of word = (decoded (word / 32) * 16 + decoded (word % 32)) % 256

-- 1 for an illegal word, which points its track (document 01, "The 6250 group"), else 0
unfoldable pub illegality : ℕ → ℕ
illegality word = cond (legal_word word) 0 1

-- the bits of a word of w bits the other way round
unfoldable pub mirrored : ℕ → ℕ → ℕ
mirrored w a = of_bits (tabulate w (λ k. bit (w - 1 - k) a))

-- a word of ten bits as it passes the head backward (document 01, "Backward"). One above 1,023 stays: it is refused.
unfoldable pub reversed_word : ℕ → ℕ
reversed_word word = cond (ltb 1023 word) word (mirrored 10 word)

-- a word of a reading, forward or backward, as it is in the forward picture
unfoldable pub forward_word : Bool → ℕ → ℕ
forward_word backward word = cond backward (reversed_word word) word

-- how a word of a reading reads: the value of its forward word, and in bit 8 whether that is illegal
unfoldable pub read_of : Bool → ℕ → ℕ
read_of backward word = value_of (forward_word backward word) + 256 * illegality (forward_word backward word)

-- how each word of ten bits reads
unfoldable pub readings : Bool → List ℕ
readings backward = tabulate 1024 (read_of backward)
