-- The returns of `nth_in_block`, `nth` and `select`, from what the code has there. Assumes nothing.
use Rattle.range_bitset.proofs.Kit.{◌≡◌, refl, sym, ap, ap₂, subst, ◌∙◌, Bool, true, false, not, cond, List, ℕ, suc, zero-le, ◌+◌, ◌*◌, ◌-◌, ◌^◌, ◌≤◌, ◌<◌, dec_lt, arith, ones, length, get_or, take, drop}
use Rattle.positions.specs.Positions.{Positions, count}
use Rattle.positions.specs.Walks.{having, Nth}
use Rattle.positions.specs.Replies.{of_place}
use Rattle.positions.proofs.Counts.{count_split, count_same, count_from_lem}
use Rattle.positions.proofs.Selects.{count_moved_lem, nth_from_lem, nth_moved, select_at, select_none}
use Rattle.bits.specs.Bit.{bit}
use Rattle.bits.proofs.Ones.{ones_count_from}
use Rattle.range_bitset.specs.Layout.{blocks, words_of, address, at, word, population}
use Rattle.range_bitset.specs.Read.{ALL, word_read}
use Rattle.range_bitset.specs.Represents.{word_of, closed, Represents, Stored, capacity_of}
use Rattle.range_bitset.specs.Answers.{storage_refusal}
use Rattle.range_bitset.specs.Entries.{SelectEnsures}
use Rattle.range_bitset.specs.Inner.{Room, block_start, CandidateWords, CandidateBlocks}
use Rattle.range_bitset.specs.Levels.{start_of, Lands, Seeks, AmongOf, NthInBlock, NthIn}
use Rattle.range_bitset.specs.declared.RangeBitset.{RangeBitset}
use Rattle.std.proofs.Common.{Some, None, Ok}
use Rattle.range_bitset.specs.declared.level.Level.{Level}
use Rattle.range_bitset.specs.declared.level.Landing.{Landing}
use Rattle.range_bitset.specs.declared.level.Landing.TheVariants.{At, Within}
use Rattle.range_bitset.proofs.QueryReturns.{answered, len_begun}
use Rattle.range_bitset.proofs.SetWords.{word_lt, word_is}
use Rattle.range_bitset.proofs.SearchReturns.{valued}
use Rattle.range_bitset.proofs.Walked.{part_long, part_at}
use Rattle.range_bitset.proofs.StoredLevels.{blocks_level, words_level}

-- ---- the numbers of a level, as a part of the storage

abbrev pub numbers : List ℕ → ℕ → ℕ → List ℕ
numbers st from n = take (from + n - from) (drop from st)

-- ---- `nth_in_block`

bits_fit : (v : Bool) (y : ℕ) → y < 2 ^ 64 → cond v y (ALL - y) < 2 ^ 64
bits_fit true y f = f
bits_fit false y f = omega arith

module _ (W : ℕ) (st : List ℕ) (b : ℕ) (room : Room W st) (in_set : b < blocks W) (total n : ℕ) {size : ℕ} (z : size ≡ words_of W b) (l : Level 64)
    (sizes : l.sizes.now ≡ numbers st (64 * b) size) (ends : l.end ≡ 64 * size) (c : CandidateWords W b l.value st l.some)
    (o : CandidateWords W b (not l.value) st l.others) where
  abbrev of_value : Positions → Positions
  of_value s = having s l.value

  module _ (s : Positions) (h : Stored W st s) (t : total ≡ count (of_value s) (block_start W b) (block_start W (suc b))) where
    abbrev here : Positions
    here i = of_value s (4096 * b + i)

    in_all : count here 0 l.end ≡ total
    in_all =
        let x : 4096 * b + 0 ≡ block_start W b = omega arith in
        let y : 4096 * b + l.end ≡ block_start W (suc b) = omega arith in
        count_moved_lem (of_value s) (4096 * b) 0 l.end ∙ ap₂ (count (of_value s)) x y ∙ sym t

    lands : {r : Landing} → Seeks l (AmongOf total n) r → Lands here l n r
    lands q =
        let number : (j : ℕ) → j < words_of W b → get_or l.sizes.now j 0 ≡ at W st (word (64 * b + j)) =
        λ j u. ap (λ (x : List ℕ). get_or x j 0) sizes ∙ part_at st (64 * b) size j (omega arith) in
        q.lands here n (words_level W st s h room.most b in_set l (omega arith) c o number) (in_all, refl)

    -- the word that has it
    module _ (i m most k x : ℕ) (q : Seeks l (AmongOf total n) (Within i m most)) (kp : k ≡ 64 * b + i) (xp : x ≡ cond l.value (word_read W st k) (ALL - word_read W st k)) where
      there : k < W
      there = omega (arith, q.inside.0, ap (length {A = ℕ}) sizes, part_long st (64 * b) size (omega (arith, room.long)))

      bits_are : (j : ℕ) → j < 64 → bit x j ≡ of_value s (64 * k + j)
      bits_are = valued W st k l.value x there xp s h

      bits_few : x < 2 ^ 64
      bits_few = rw (xp, word_is W st s closed h k there) (bits_fit l.value (word_of s k) (word_lt s k))

      start_is : 4096 * b + start_of l i ≡ 64 * k
      start_is = let u = there in omega arith

      enough : m < ones x
      enough =
          let u = there in
          let y : 4096 * b + start_of l (suc i) ≡ 64 * k + 64 = omega arith in
          let w : 64 * k + 0 ≡ 64 * k = omega arith in
          omega (
            arith,
            q.inside.1,
            (lands q).1,
            count_moved_lem (of_value s) (4096 * b) (start_of l i) (start_of l (suc i)),
            ap₂ (count (of_value s)) start_is y,
            ones_count_from 64 x bits_few,
            count_from_lem (bit x) 0 64,
            count_same (bit x) (λ j. of_value s (64 * k + j)) 0 64 (λ j p u. bits_are j u),
            count_moved_lem (of_value s) (64 * k) 0 64,
            ap (λ (a : ℕ). count (of_value s) a (64 * k + 64)) w,
          )

      part_nth : (p : ℕ) → p < 64 → Nth (bit x) 0 m p → Nth (of_value s) (4096 * b) n (64 * k + p)
      part_nth p u a =
          let w : 4096 * b + 0 ≡ 4096 * b = omega arith in
          nth_from_lem (of_value s) (4096 * b) (64 * k) m n (64 * k + p) (omega arith)
          (nth_moved (of_value s) (bit x) (64 * k) m p (λ j g. bits_are j (omega arith)) a)
          (omega (
            arith,
            (lands q).0,
            count_moved_lem (of_value s) (4096 * b) 0 (start_of l i),
            ap₂ (count (of_value s)) w start_is,
          ))

  pub in_whole_words : (i m : ℕ) → Seeks l (AmongOf total n) (At i m) → NthInBlock W b l.value total n st (64 * (64 * b + i) + m)
  in_whole_words i m q s h t =
      let e : 4096 * b + (i * 64 + m) ≡ 64 * (64 * b + i) + m = omega arith in
      subst (Nth (of_value s) (4096 * b) n) e (nth_moved (of_value s) (here s h t) (4096 * b) n (i * 64 + m) (λ j u. refl) (lands s h t q))

  pub in_one_word : (i m most k x p : ℕ) → Seeks l (AmongOf total n) (Within i m most) → k ≡ 64 * b + i
      → x ≡ cond l.value (word_read W st k) (ALL - word_read W st k) → (p < 64) × (m < ones x → Nth (bit x) 0 m p) → NthInBlock W b l.value total n st (64 * k + p)
  in_one_word i m most k x p q kp xp a s h t = part_nth s h t i m most k x q kp xp p a.0 (a.1 (enough s h t i m most k x q kp xp))

-- ---- `nth`

module _ (W : ℕ) (st : List ℕ) (room : Room W st) (total n : ℕ) {from size : ℕ} (fp : from ≡ address W (population 0)) (z : size ≡ blocks W) (l : Level 4096)
    (sizes : l.sizes.now ≡ numbers st from size) (ends : l.end ≡ 64 * W) (c : CandidateBlocks W l.value st l.some) (o : CandidateBlocks W (not l.value) st l.others) where
  reached : (s : Positions) {r : Landing} → Stored W st s → total ≡ count (having s l.value) 0 (64 * W) → Seeks l (AmongOf total n) r → Lands (having s l.value) l n r
  reached s h t q = q.lands (having s l.value) n (blocks_level W st s h room.most l ends c o kept) (ap (count (having s l.value) 0) ends ∙ sym t, refl)
    where
      kept : (i : ℕ) → i < blocks W → get_or l.sizes.now i 0 ≡ at W st (population i)
      kept i u =
          let e : from + i ≡ address W (population i) = omega arith in
          ap (λ (x : List ℕ). get_or x i 0) sizes ∙ part_at st from size i (omega arith) ∙ ap (λ (x : ℕ). get_or st x 0) e

  pub in_whole_blocks : (i m : ℕ) → Seeks l (AmongOf total n) (At i m) → NthIn W l.value total n st (4096 * i + m)
  in_whole_blocks i m q s h t =
      let e : i * 4096 + m ≡ 4096 * i + m = omega arith in
      subst (Nth (having s l.value) 0 n) e (reached s h t q)

  pub in_one_block : (i m most p : ℕ) → Seeks l (AmongOf total n) (Within i m most) → NthInBlock W i l.value most m st p → NthIn W l.value total n st p
  in_one_block i m most p q a s h t =
      let u : i < blocks W = omega (arith, q.inside.0, ap (length {A = ℕ}) sizes, part_long st from size (omega (arith, room.long))) in
      let x : start_of l i ≡ block_start W i = omega arith in
      let y : start_of l (suc i) ≡ block_start W (suc i) = omega arith in
      let w : start_of l i ≡ 4096 * i = omega arith in
      let g = reached s h t q in
      nth_from_lem (having s l.value) 0 (4096 * i) m n p zero-le (a s h (g.1 ∙ ap₂ (count (having s l.value)) x y))
      (ap (λ (j : ℕ). count (having s l.value) 0 j + m) (sym w) ∙ g.0)

-- ---- `select`

module _ (h : RangeBitset) (st : List ℕ) (n : ℕ) (ok : storage_refusal h (length st) ≡ 0) where
  pub select_past : h.len ≤ n → SelectEnsures h st n (Ok None)
  select_past l = answered _ h st _ ok tt (λ s t. ap of_place (sym (select_none s n (capacity_of h) (omega (arith, t.counted)))))

  pub select_found : (p : ℕ) → n < h.len → NthIn h.words true h.len n st p → SelectEnsures h st n (Ok (Some p))
  select_found p l q =
      answered _ h st _ ok tt
      (λ s t.
      let x = q s (len_begun h st s t (λ z. omega arith)) t.counted in
      ap of_place (sym (select_at s n (capacity_of h) p x (below s t x (dec_lt p (capacity_of h))))))
    where
      below : (s : Positions) → Represents h st s → Nth s 0 n p → Dec (p < capacity_of h) → p < capacity_of h
      below s t x (yes u) = u
      below s t x (no u) = absurd (omega (arith, x.before, t.counted, count_split s 0 (capacity_of h) p zero-le (omega arith)))
