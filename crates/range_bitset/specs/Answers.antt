-- What the entries answer, and the reply of each answer; and the refusals, in 01's order.
-- Assumes nothing.
use Rattle.std.specs.Prelude.{ℕ, ◌/◌, ◌%◌, Bool, cond, ◌&&◌, ◌==◌, nat_le, nat_lt, Option, Result}
use Rattle.std.specs.declared.ops.Range.{Range}
use Rattle.positions.specs.Positions.{one}
use Rattle.positions.specs.Replies.{Reply, number}
use Rattle.answers.specs.Refusals.{of_result, of_position, of_range, answer_in}
use Rattle.answers.specs.declared.Refusal.{Refusal}
use Rattle.answers.specs.declared.Changed.{Changed}
use Rattle.range_bitset.specs.Layout.{allowed, needed}
use Rattle.range_bitset.specs.Represents.{capacity_of}
use Rattle.range_bitset.specs.declared.RangeBitset.{RangeBitset}

-- a head, a count, a truth, a run or none, a position or none: or why the call is refused. Those that change the set give the head too
abbrev pub Made : Type 0
Made = Result RangeBitset Refusal

abbrev pub Counted : Type 0
Counted = Result ℕ Refusal

abbrev pub Tested : Type 0
Tested = Result Bool Refusal

abbrev pub Found : Type 0
Found = Result (Option (Range ℕ)) Refusal

abbrev pub Placed : Type 0
Placed = Result (Option ℕ) Refusal

abbrev pub Assigned : Type 0
Assigned = Result (Changed ℕ RangeBitset) Refusal

abbrev pub Updated : Type 0
Updated = Result (Changed Bool RangeBitset) Refusal

-- a count; a truth, as 1 or 0; a run or none; a position or none
abbrev pub of_counted : Counted → Reply
of_counted r = of_result number r

abbrev pub of_tested : Tested → Reply
of_tested r = of_result (λ b. number (one b)) r

abbrev pub of_found : Found → Reply
of_found r = of_result of_range r

abbrev pub of_placed : Placed → Reply
of_placed r = of_result of_position r

abbrev pub of_assigned : Assigned → Reply
of_assigned r = of_counted (answer_in r)

abbrev pub of_updated : Updated → Reply
of_updated r = of_tested (answer_in r)

-- ---- the refusals of 01's table, 0 where a call is accepted

-- 1: the capacity is not 64 times an allowed word count
unfoldable pub allowed_capacity : ℕ → Bool
allowed_capacity c = c % 64 == 0 && allowed (c / 64)

-- 2: the head's word count is not allowed, or its population is above the capacity
unfoldable pub good_head : RangeBitset → Bool
good_head h = allowed h.words && nat_le h.len (capacity_of h)

unfoldable pub head_refusal : RangeBitset → ℕ
head_refusal h = cond (good_head h) 0 2

-- 2, then 3: a storage of n numbers is shorter than needed
unfoldable pub storage_refusal : RangeBitset → ℕ → ℕ
storage_refusal h n = cond (good_head h) (cond (nat_lt n (needed h.words)) 3 0) 2

-- 2, 3, then 4: an end above the capacity, or a point at or above it
abbrev pub first_of : ℕ → ℕ → ℕ
first_of k next = cond (k == 0) next k

unfoldable pub range_refusal : RangeBitset → ℕ → ℕ → ℕ
range_refusal h n e = first_of (storage_refusal h n) (cond (nat_le e (capacity_of h)) 0 4)

unfoldable pub point_refusal : RangeBitset → ℕ → ℕ → ℕ
point_refusal h n i = first_of (storage_refusal h n) (cond (nat_lt i (capacity_of h)) 0 4)
