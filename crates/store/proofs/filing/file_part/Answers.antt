-- `store::filing::file_part` meets its contract: the first segment behind a leading octet, and the segments after it.
use Rattle.std.proofs.Common.{ℕ, ◌-◌, ◌*◌, List, ◌∷◌, take, sym, ap, ◌∙◌, arith}
use Rattle.std.proofs.lemmas.List.{take_min}
use Rattle.store.proofs.Laws.{filed_starts, cut_led, cut_behind, put_as}
use Rattle.store.proofs.filing.file_part.Goals as goal

pub returns-then-i-eq0 : goal.returns-then-i-eq0
returns-then-i-eq0 c =
    let a = c.args in
    let most = a.limits.payload - 1 in
    let front = ap (λ (k : ℕ). take k a.unit.now) c.min-count.ensures ∙ take_min most a.unit.now in
    let is = ap (λ (l : List ℕ). 0 ∷ l) front ∙ sym (cut_led a.limits a.unit.now a.i c.if-limits-eq0.false c.requires.le_payload.0 c.if-i-eq0.true) in
    put_as a.mem.now a.lens.now (a.slot * a.limits.payload) a.slot _ _ _ _ is c.file_led.ensures

pub returns-else-i-eq0 : goal.returns-else-i-eq0
returns-else-i-eq0 c =
    let a = c.args in
    let is = sym (cut_behind a.limits a.unit.now a.i c.if-limits-eq0.false c.requires.le_payload.0 c.if-i-eq0.false) in
    put_as a.mem.now a.lens.now (a.slot * a.limits.payload) a.slot _ _ _ _ is c.file_from-else-i-eq0.ensures

pub file_from-requires-else-i-eq0-clause-slot_lt_slots : goal.file_from-requires-else-i-eq0-clause-slot_lt_slots
file_from-requires-else-i-eq0-clause-slot_lt_slots c =
    let a = c.args in
    let pre = c.requires.le_payload in
    (pre.1, omega (arith, filed_starts a.limits a.unit.now a.i pre.2))
