-- A range in pieces: what `count_units` puts together, from what the code has where its branches meet. Assumes nothing.
use Rattle.range_bitset.proofs.Kit.{◌≡◌, sym, ap₂, ◌∙◌, List, ℕ, ◌+◌, ◌*◌, ◌%◌, ◌^◌, ◌≤◌, ◌<◌, mul-le-mul_left, arith, bit_and, ones}
use Rattle.positions.specs.Positions.{count}
use Rattle.positions.proofs.Counts.{count_split, count_empty, count_le}
use Rattle.range_bitset.specs.Layout.{words_of}
use Rattle.range_bitset.specs.Read.{word_read}
use Rattle.range_bitset.specs.Represents.{closed}
use Rattle.range_bitset.specs.Inner.{Spans, words_count, blocks_count, Counts}
use Rattle.range_bitset.proofs.Populations.{part_count, words_count_lem, blocks_count_lem}

module _ (W : ℕ) (st : List ℕ) where
  -- a piece within a word, one of whole words in a block, one of whole blocks
  pub word_piece : (k m a b x y r : ℕ) → k < W → Spans m a b → a ≤ b → b ≤ 64 → 64 * k + a ≡ x → 64 * k + b ≡ y
      → r ≡ ones (bit_and (word_read W st k) m) → Counts W x y st r
  word_piece k m a b x y r g w l h d e q s t = q ∙ part_count W st s closed t k m a b x y g w l h d e

  pub words_piece : (c m a b x y r : ℕ) → Spans m a b → a ≤ b → b ≤ words_of W c → 64 * (64 * c + a) ≡ x → 64 * (64 * c + b) ≡ y
      → r ≡ words_count W st c m → Counts W x y st r
  words_piece c m a b x y r w l h d e q s t = q ∙ words_count_lem W st s closed t c m a b w l h ∙ ap₂ (count s) d e

  pub blocks_piece : (m a b x y r : ℕ) → Spans m a b → a ≤ b → 64 * b ≤ W → W ≤ 4096 → 4096 * a ≡ x → 4096 * b ≡ y → r ≡ blocks_count W st m → Counts W x y st r
  blocks_piece m a b x y r w h l k d e q s t = q ∙ blocks_count_lem W st s closed t m a b w h l k ∙ ap₂ (count s) d e

  -- ---- in units of u positions

  module _ (u : ℕ) where
    -- no unit
    pub no_units : (a e r : ℕ) → e ≤ a → r ≡ 0 → Counts W (u * a) (u * e) st r
    no_units a e r h q s t = q ∙ sym (count_empty s (u * a) (u * e) (mul-le-mul_left u h))

    -- three pieces, the two ends first: the sum in 32 bits
    pub units_together : (a b c e p m q r : ℕ) → a ≤ b → b ≤ c → c ≤ e → u * e ≤ 64 * W → W ≤ 4096
        → Counts W (u * a) (u * b) st p → Counts W (u * c) (u * e) st m → Counts W (u * b) (u * c) st q → r ≡ ((p + m) % 2 ^ 32 + q) % 2 ^ 32
        → Counts W (u * a) (u * e) st r
    units_together a b c e p m q r h k l n o f g i z s t =
        let x : u * a ≤ u * b = mul-le-mul_left u h in
        let y : u * b ≤ u * c = mul-le-mul_left u k in
        let w : u * c ≤ u * e = mul-le-mul_left u l in
        omega (
          arith,
          f s t,
          g s t,
          i s t,
          z,
          count_split s (u * a) (u * b) (u * e) x (omega arith),
          count_split s (u * b) (u * c) (u * e) y w,
          count_le s (u * a) (u * e),
        )
