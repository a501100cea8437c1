-- `condition::standing::stands` meets its contract: settings that are fit and a window that is in its ring give what `is_marked` asks.
use Rattle.std.proofs.Common.{◌≡◌, true, arith}
use Rattle.channel.specs.Settings.{fit_limits}
use Rattle.channel.specs.Standing.{in_ring}
use Rattle.channel.proofs.SettingsLaws.{fit_is}
use Rattle.channel.proofs.StandingLaws.{ring_is}
use Rattle.condition.proofs.standing.stands.Goals as goal

pub is_marked-requires : goal.is_marked-requires
is_marked-requires c =
    let l = c.args.c.limits in
    let w = c.args.c.window in
    let f : fit_limits l ≡ true = grind arith in
    let r : in_ring l w ≡ true = grind arith in
    let t = fit_is l f in
    let q = ring_is l w r in
    (q.0, q.1, omega arith, t.most)
