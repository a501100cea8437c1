-- `arrivals::data::arrive_data` meets its contract: the parts are cut out, stepped, and put back.
use Rattle.channel.proofs.SettingsLaws.{fit_is}
use Rattle.channel.proofs.StandingLaws.{own_fits}
use Rattle.arrivals.proofs.DataLaws.{data_files}
use Rattle.arrivals.proofs.data.arrive_data.Goals as goal

pub replying-requires : goal.replying-requires
replying-requires c =
    let a = c.args in
    let p = c.requires in
    (own_fits _ _ p.0.standing, (fit_is a.c.limits p.0.standing.fit).window, p.4)

pub returns : goal.returns
returns c =
    let a = c.args in
    let p = c.requires in
    let filed = c.data_step-s.ensures in
    data_files a.node a.f a.payload.now a.c a.d a.mem.now a.lens.now a.out.now p.1 p.0 p.3 _ _ _ _ c.octets.ensures c.slots.ensures _ _ _ _ _ filed.0 filed.1 filed.2 c.replying.ensures
