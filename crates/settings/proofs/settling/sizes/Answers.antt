-- `settings::settling::sizes` meets its contract: of settings that are fit each asks for little.
use Rattle.std.proofs.Common.{get_or, arith}
use Rattle.channel.proofs.TableLaws.{table_count, table_fit}
use Rattle.settings.proofs.Named.{nothing}
use Rattle.settings.proofs.OneLaws.{bounded}
use Rattle.settings.proofs.Fitting.{slots_none, octets_none, slots_more, octets_more}
use Rattle.settings.proofs.settling.sizes.Goals as goal

pub overflow_add-slots : goal.overflow_add-slots
overflow_add-slots c =
    let at = c.loop-x in
    let s = c.args.s.now in
    let b = bounded (get_or s at.x-index nothing) (table_fit s nothing c.requires at.x-index c.loop-x-test.true) in
    omega (arith, at.invariant.few, b.0, (table_count s c.requires).1, c.loop-x-test.true)

pub area-octets-requires : goal.area-octets-requires
area-octets-requires c = bounded _ (table_fit c.args.s.now nothing c.requires c.loop-x.x-index c.loop-x-test.true)

pub overflow_add-octets : goal.overflow_add-octets
overflow_add-octets c =
    let at = c.loop-x in
    omega (arith, at.invariant.small, c.area-octets.ensures.1, (table_count c.args.s.now c.requires).1, c.loop-x-test.true)

pub loop-x-preserved : goal.loop-x-preserved
loop-x-preserved c =
    let at = c.loop-x in
    let s = c.args.s.now in
    let b = bounded (get_or s at.x-index nothing) (table_fit s nothing c.requires at.x-index c.loop-x-test.true) in
    record {
      few = omega (arith, at.invariant.few, b.0);
      small = omega (arith, at.invariant.small, c.area-octets.ensures.1);
      slots = omega (arith, at.invariant.slots, slots_more s at.x-index nothing c.loop-x-test.true);
      octets = omega (arith, at.invariant.octets, octets_more s at.x-index nothing c.loop-x-test.true, c.area-octets.ensures.0);
    }

pub returns-clause-slots : goal.returns-clause-slots
returns-clause-slots c = omega (arith, c.loop-x.invariant.slots, slots_none c.args.s.now c.loop-x.x-index c.loop-x-test.false)

pub returns-clause-octets : goal.returns-clause-octets
returns-clause-octets c = omega (arith, c.loop-x.invariant.octets, octets_none c.args.s.now c.loop-x.x-index c.loop-x-test.false)
