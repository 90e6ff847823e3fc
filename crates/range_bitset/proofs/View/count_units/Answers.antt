-- `count_units` meets its contract: the two partial parts at the ends, and the whole parts between. Assumes nothing.
use Rattle.range_bitset.proofs.Kit.{refl, ◌*◌, arith}
use Rattle.range_bitset.specs.Inner.{Counts}
use Rattle.range_bitset.proofs.Pieces.{LowEnd, HighEnd}
use Rattle.range_bitset.proofs.CountPieces.{no_units, units_together}
use Rattle.range_bitset.proofs.View.count_units.Goals as goal
use Rattle.range_bitset.proofs.View.count_units.Goals.{then-from-ne0, else-from-ne0, then-to-ne0, else-to-ne0, then-whole_from-whole_to, else-whole_from-whole_to}

pub returns : goal.returns
returns g c =
    let a = c.args in
    let u = g.U.Unit.each in
    let W = a.self.words in
    let st = a.self.storage.now in
    let f = c.if-from-ne0.whole_from in
    let t = c.if-to-ne0.whole_to in
    let low : LowEnd a.from f c.if-from-ne0.population (Counts W (u * a.from) (u * (64 * f)) st c.if-from-ne0.population) =
    elim c.if-from-ne0.branch [
      | then-from-ne0 w ↦
          record {
            low = omega arith;
            near = omega arith;
            fits = rw w.population-is w.part_population-population.type_inv;
            done = rw (w.population-is, w.whole_from-is) w.part_population-population.ensures;
          }
      | else-from-ne0 w ↦ record { low = omega arith; near = omega arith; fits = omega arith; done = no_units _ _ u _ _ _ (omega arith) w.population-is }
    ]
    in
    let high : HighEnd t a.to c.if-from-ne0.population c.if-to-ne0.population (Counts W (u * (64 * t)) (u * a.to) st) =
    elim c.if-to-ne0.branch [
      | then-to-ne0 w ↦
          record {
            more = w.part_population-more.result;
            high = omega arith;
            near = omega arith;
            sum = w.population-is;
            done = rw w.whole_to-is w.part_population-more.ensures;
          }
      | else-to-ne0 w ↦ record { more = 0; high = omega arith; near = omega arith; sum = omega (arith, low.fits); done = no_units _ _ u _ _ _ (omega arith) refl }
    ]
    in
    let whole : Counts W (u * (64 * f)) (u * (64 * t)) st c.if-whole_from-whole_to.whole =
    elim c.if-whole_from-whole_to.branch [
      | then-whole_from-whole_to w ↦ rw w.whole-is w.whole_population-whole.ensures
      | else-whole_from-whole_to w ↦ no_units _ _ u _ _ _ (omega arith) w.whole-is
    ]
    in
    units_together W st u a.from (64 * f) (64 * t) a.to _ high.more _ _ low.low (omega (arith, low.near, high.near)) high.high c.requires.1 a.self.room.most low.done high.done whole (omega (arith, high.sum))
