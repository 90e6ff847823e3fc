-- The blocks of a set that a storage holds are a level, and so are the words of a block: for the positions of either value. Assumes
-- nothing.
use Rattle.range_bitset.proofs.Kit.{◌≡◌, refl, sym, ap, ap₂, ◌∙◌, Bool, true, false, not, ◌&&◌, cond, List, ℕ, suc, ◌+◌, ◌*◌, ◌-◌, ◌/◌, ◌%◌, ◌^◌, ◌≤◌, ◌<◌, arith, ones, get_or}
use Rattle.positions.specs.Positions.{Positions, count}
use Rattle.positions.specs.Walks.{Lacks, having}
use Rattle.positions.proofs.Counts.{count_le}
use Rattle.positions.proofs.Selects.{having_none, having_all, count_having, count_moved_lem}
use Rattle.bits.proofs.Bits.{bit_below}
use Rattle.range_bitset.specs.Layout.{blocks, words_of, at, word, population}
use Rattle.range_bitset.specs.Represents.{word_of, any_word, all_word, block_count, any_block, all_block, closed, masked, Stored}
use Rattle.range_bitset.specs.Inner.{block_start, word_start, CandidateWords, CandidateBlocks}
use Rattle.range_bitset.specs.Levels.{start_of, population_by, size_of, LevelOf}
use Rattle.range_bitset.specs.declared.level.Level.{Level}
use Rattle.range_bitset.proofs.SetWords.{word_all, word_none, word_ones, clear_positions, full_positions}
use Rattle.range_bitset.proofs.Candidates.{clear_lacks, full_lacks}

-- a range that lacks neither value, by either name
has_both : (s : Positions) (v : Bool) (a e : ℕ) → (Lacks s v a e → ⊥) → (Lacks s (not v) a e → ⊥) → (Lacks s true a e → ⊥) × (Lacks s false a e → ⊥)
has_both s true a e f g = (f, g)
has_both s false a e f g = (g, f)

-- the size of a part whose number stands for the set positions of a..e
size_by : (s : Positions) {each : ℕ} (l : Level each) (i a e : ℕ) → population_by each (get_or l.sizes.now i 0) ≡ count s a e → start_of l (suc i) - i * each ≡ e - a
    → e ≤ 2 ^ 18 → size_of l i ≡ count (having s l.value) a e
unfolding size_of
size_by s l i a e h d f = rw (h, d) (by l.value)
  where
    by : (v : Bool) → cond v (count s a e) ((e - a + (2 ^ 64 - count s a e)) % 2 ^ 64) ≡ count (having s v) a e
    by true = refl
    by false = omega (arith, count_having s a e false, count_le s a e)

module _ (W : ℕ) (st : List ℕ) (s : Positions) (h : Stored W st s) (most : W ≤ 4096) where
  -- a block of both values, and a word of both
  block_mixed : (b : ℕ) → (Lacks s true (block_start W b) (block_start W (suc b)) → ⊥) → (Lacks s false (block_start W b) (block_start W (suc b)) → ⊥) → masked W s closed b ≡ true
  block_mixed b f g = ap₂ (λ (x y : Bool). x && not y) (any (any_block W s b) refl) (all (all_block W s b) refl)
    where
      any : (x : Bool) → any_block W s b ≡ x → x ≡ true
      any true e = refl
      any false e = absurd (f (λ i p q. clear_positions W s b e i (omega arith) (omega arith)))

      all : (x : Bool) → all_block W s b ≡ x → x ≡ false
      all true e = absurd (g (λ i p q. full_positions W s b e i (omega arith) (omega arith)))
      all false e = refl

  word_stored : (b j : ℕ) → j < words_of W b → (Lacks s true (word_start b j) (word_start b (suc j)) → ⊥) → (Lacks s false (word_start b j) (word_start b (suc j)) → ⊥)
      → at W st (word (64 * b + j)) ≡ word_of s (64 * b + j)
  word_stored b j l f g =
      let d : (64 * b + j) / 64 ≡ b = omega arith in
      h.stored (64 * b + j) (omega arith)
      (ap (masked W s closed) d ∙ block_mixed b (λ k. f (λ i p q. k i (omega arith) (omega arith))) (λ k. g (λ i p q. k i (omega arith) (omega arith))))
      (any (any_word s (64 * b + j)) refl) (all (all_word s (64 * b + j)) refl)
    where
      any : (x : Bool) → any_word s (64 * b + j) ≡ x → x ≡ true
      any true e = refl
      any false e = absurd (f (λ i p q. clear_lacks s (64 * b + j) (word_none s (64 * b + j) e) i p (omega arith)))

      all : (x : Bool) → all_word s (64 * b + j) ≡ x → x ≡ false
      all true e = absurd (g (λ i p q. full_lacks s (64 * b + j) (word_all s (64 * b + j) e) i p (omega arith)))
      all false e = refl

  -- ---- the blocks

  module _ (l : Level 4096) (ends : l.end ≡ 64 * W) (c : CandidateBlocks W l.value st l.some) (o : CandidateBlocks W (not l.value) st l.others)
      (numbers : (i : ℕ) → i < blocks W → get_or l.sizes.now i 0 ≡ at W st (population i)) where
    pub blocks_level : LevelOf (having s l.value) l
    unfolding block_count
    blocks_level =
        record {
          none = λ i e p q w. having_none s (block_start W i) (block_start W (suc i)) l.value ((c.marks s h).lacks i (omega arith) e) p (omega arith) (omega arith);
          whole = λ i e p q w. having_all s (block_start W i) (block_start W (suc i)) l.value ((o.marks s h).lacks i (omega arith) e) p (omega arith) (omega arith);
          sized = λ i e f.
              let b : i < blocks W = bit_below (blocks W) l.some i c.fits e in
              let m = has_both s l.value (block_start W i) (block_start W (suc i)) ((c.marks s h).has i b e) ((o.marks s h).has i b f) in
              let x : 4096 * i ≡ start_of l i = omega arith in
              let y : 4096 * i + 64 * words_of W i ≡ start_of l (suc i) = omega arith in
              size_by s l i (4096 * i) (4096 * i + 64 * words_of W i) (numbers i b ∙ h.counts i b (block_mixed i m.0 m.1)) (omega arith) (omega arith)
              ∙ ap₂ (count (having s l.value)) x y;
          reach = omega arith;
        }

  -- ---- the words of block b

  module _ (b : ℕ) (in_set : b < blocks W) (l : Level 64) (ends : l.end ≡ 64 * words_of W b) (c : CandidateWords W b l.value st l.some)
      (o : CandidateWords W b (not l.value) st l.others) (numbers : (j : ℕ) → j < words_of W b → get_or l.sizes.now j 0 ≡ at W st (word (64 * b + j))) where
    pub words_level : LevelOf (λ i. having s l.value (4096 * b + i)) l
    words_level =
        record {
          none = λ j e p q w. having_none s (word_start b j) (word_start b (suc j)) l.value ((c.marks s h).lacks j (omega arith) e) (4096 * b + p) (omega arith) (omega arith);
          whole = λ j e p q w. having_all s (word_start b j) (word_start b (suc j)) l.value ((o.marks s h).lacks j (omega arith) e) (4096 * b + p) (omega arith) (omega arith);
          sized = λ j e f.
              let u : j < words_of W b = bit_below (words_of W b) l.some j c.fits e in
              let m = has_both s l.value (word_start b j) (word_start b (suc j)) ((c.marks s h).has j u e) ((o.marks s h).has j u f) in
              let k = 64 * b + j in
              let x : 4096 * b + start_of l j ≡ 64 * k = omega arith in
              let y : 4096 * b + start_of l (suc j) ≡ 64 * k + 64 = omega arith in
              let n : ones (get_or l.sizes.now j 0) ≡ count s (64 * k) (64 * k + 64) = ap ones (numbers j u ∙ word_stored b j u m.0 m.1) ∙ word_ones s k in
              size_by s l j (64 * k) (64 * k + 64) n (omega arith) (omega arith)
              ∙ sym (count_moved_lem (having s l.value) (4096 * b) (start_of l j) (start_of l (suc j)) ∙ ap₂ (count (having s l.value)) x y);
          reach = omega arith;
        }
