-- `moving::refiling::cut_again` meets its contract: what is fetched is the segment, behind an octet 1 where it is the first.
use Prim.Native.Nat.{ℕ, suc, ◌-◌, ◌*◌}
use mathlib.Core.Path.{◌≡◌, sym, ap, ◌∙◌}
use native.Mathlib.Omega.{arith}
use mathlib.Core.List.{List, ◌∷◌}
use lib.ListN.{length, set, take, drop, length-take, length-drop, replicate}
use Rattle.channel.specs.Places.{slot_in}
use Rattle.store.specs.Store.{octets_in}
use Rattle.moving.proofs.RefileLaws.{again_length, len_some, again_first, again_later, front_filled, front_led}
use Rattle.moving.proofs.refiling.cut_again.Goals as goal

pub returns-then-i-eq0 : goal.returns-then-i-eq0
returns-then-i-eq0 c =
    let a = c.args in
    let pre = c.requires in
    let u = octets_in (slot_in a.u.lot.limits) a.u.lot.limits.payload a.mem.now a.lens.now a.u.lot.limits.slots a.u.count a.u.from in
    let len = c.min-length.result in
    let least = c.min-length.ensures in
    let some = len_some a.most u a.u.size a.i len pre.le_most.2 pre.le_most.3 pre.le_most.0 least in
    let behind : List ℕ = drop 1 (set (replicate 1024 0) 0 1) in
    let part = take (len - 1) behind in
    let room : length part ≡ len - 1 = omega (arith, least, pre.le_most.1, length-take (len - 1) behind) in
    let shorter = ap (λ (k : ℕ). take k (drop 1 u)) room in
    let long : len ≡ suc (length (take (length part) (drop 1 u))) =
    omega (arith, some, least, room, pre.le_most.2, length-take (length part) (drop 1 u), length-drop 1 u) in
    let is = again_length a.most u a.u.size a.i len pre.le_most.2 pre.le_most.3 pre.le_most.0 least in
    (is, front_led part (take (length part) (drop 1 u)) _ _ 1 len c.fetch.ensures long (omega (arith, long, room)) ∙ ap (λ (l : List ℕ). 1 ∷ l) shorter ∙ again_first a.most u a.u.size a.i len pre.le_most.2 pre.le_most.3 pre.le_most.0 least c.if-i-eq0.true)

pub returns-else-i-eq0 : goal.returns-else-i-eq0
returns-else-i-eq0 c =
    let a = c.args in
    let pre = c.requires in
    let u = octets_in (slot_in a.u.lot.limits) a.u.lot.limits.payload a.mem.now a.lens.now a.u.lot.limits.slots a.u.count a.u.from in
    let len = c.min-length.result in
    let least = c.min-length.ensures in
    let is = again_length a.most u a.u.size a.i len pre.le_most.2 pre.le_most.3 pre.le_most.0 least in
    let cut = again_later a.most u a.u.size a.i len pre.le_most.2 pre.le_most.3 pre.le_most.0 least c.if-i-eq0.false in
    let rest = drop (a.i * a.most) u in
    let all : List ℕ = replicate 1024 0 in
    let part = take len all in
    let room : length part ≡ len = omega (arith, least, pre.le_most.1, length-take len all) in
    let shorter = ap (λ (k : ℕ). take k rest) room ∙ cut in
    (is, front_filled part (take (length part) rest) _ _ len c.fetch-else-i-eq0.ensures (is ∙ ap length (sym shorter)) (omega (arith, room)) ∙ shorter)
