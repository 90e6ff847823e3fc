-- `add_run` meets its contract: a sheet added at each step. Assumes nothing.
use Rattle.estimate.proofs.Kit.{◌≡◌, refl, sym, ◌∙◌, get_or, arith}
use denote.Enum.Declared.{tag_of}
use Rattle.estimate.specs.contracts.class.Class.{the_type}
use Rattle.estimate.specs.declared.class.TheConstants.{PRICES}
use Rattle.estimate.specs.declared.class.Class.{Class}
use Rattle.estimate.specs.Prices.{price_of, place_of}
use Rattle.estimate.specs.declared.class.Class.TheVariants.{A3, A2, A1, A0, Oversize}
use Rattle.estimate.proofs.AddedSheets.{added_none, added_one, ended, unmeasured_first}
use Rattle.estimate.proofs.Estimate.add_run.Goals as goal

pub loop-i-init : goal.loop-i-init
loop-i-init c = added_none _ _ c.args.self c.requires.0

pub returns-in_default : goal.returns-in_default
returns-in_default c =
    unmeasured_first _ _ _ _ _ _ c.loop-i.auto.i c.loop-i-test.true (sym c.of.ensures ∙ c.in_default.is) c.loop-i.invariant

-- a class is cast to its place, where the table has its price
place : (k : Class) → tag_of the_type k ≡ place_of k
place A3 = refl
place A2 = refl
place A1 = refl
place A0 = refl
place Oversize = refl

priced : (k : Class) → get_or PRICES (tag_of the_type k) 0 ≡ price_of k
priced A3 = refl
priced A2 = refl
priced A1 = refl
priced A0 = refl
priced Oversize = refl

pub loop-i-preserved : goal.loop-i-preserved
loop-i-preserved c =
    added_one _ _ _ _ _ c.in-Some.class _ _ (priced c.in-Some.class) (place c.in-Some.class) c.loop-i.auto.i (sym c.of.ensures ∙ c.in-Some.is) c.loop-i.invariant

pub returns : goal.returns
returns c = ended _ _ _ _ _ _ (omega arith) c.loop-i.invariant
