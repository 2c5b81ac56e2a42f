-- What a feedback shift register of w bits, with the feedback f, holds after n characters (document 000, figure 7; document 003,
-- figure 1). It starts at zero; a step shifts it and adds the next character, multiplied by X^i. For the check register of document
-- 003 i is 0, for its error-pattern register 8, and for the encoder of document 000, whose bytes are "premultiplied by T", 1.
-- Assumes nothing.
use Rattle.std.specs.Prelude.{ℕ, ◌+◌, ◌-◌}
use Rattle.register.specs.Shift.{shifts}
use Rattle.register.specs.Sum.{xor_sum}

-- Each character has been shifted once for every one that came after it: the last has the power i. That a step leads from this sum
-- to that of one character more is a law, `held_next`.
unfoldable pub held : ℕ → ℕ → ℕ → ℕ → (ℕ → ℕ) → ℕ
held w f i n c = xor_sum n (λ k. shifts w f (n - 1 - k + i) (c k))
