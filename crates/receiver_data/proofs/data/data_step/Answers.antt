-- `receiver_data::data::data_step` meets its contract: a law of `data_step` for each sort.
use Rattle.std.proofs.Common.{ℕ, sym, ap, ◌∙◌}
use mathlib.Core.Logic.{⊎_elim}
use Rattle.receiver_data.specs.declared.sorting.Sort.TheVariants.{New, Held, Behind, Other}
use Rattle.receiver_data.specs.Sorting.{sort_at}
use Rattle.receiver_data.specs.Data.{data_by, mem_by, lens_by}
use Rattle.receiver_data.proofs.DataLaws.{data_state, state_mem, state_lens, data_by_lem, mem_by_lem, lens_by_lem}
use Rattle.receiver_data.proofs.data.data_step.Goals as goal

pub returns-then-c-ne-OPEN : goal.returns-then-c-ne-OPEN
returns-then-c-ne-OPEN c =
    let a = c.args in
    let other = c.if-c-ne-OPEN.true in
    (c.refused.ensures ∙ sym (data_state a.c a.number other a.flags), sym (state_mem a.c a.number other a.part.now a.mem.now), sym (state_lens a.c a.number other a.part.now a.lens.now))

pub returns-in-New : goal.returns-in-New
returns-in-New c =
    let a = c.args in
    let k = a.c in
    let is = c.if-c-ne-OPEN.false in
    let e = ap (sort_at k.limits k.window k.marks) (sym c.away-d.ensures) ∙ sym c.sort_at.ensures ∙ c.in-New.is in
    let w = c.away-d.ensures in
    let f = c.take_new.ensures in (
      f.0 ∙ ap (λ (d : ℕ). data_by New k d a.flags) w ∙ sym (data_by_lem k a.number New is e a.flags),
      f.1 ∙ ap (λ (d : ℕ). mem_by New k d a.part.now a.mem.now) w ∙ sym (mem_by_lem k a.number New is e a.part.now a.mem.now),
      f.2 ∙ ap (λ (d : ℕ). lens_by New k d a.part.now a.lens.now) w ∙ sym (lens_by_lem k a.number New is e a.part.now a.lens.now),
    )

pub returns-in-Held : goal.returns-in-Held
returns-in-Held c =
    let a = c.args in
    let k = a.c in
    let is = c.if-c-ne-OPEN.false in
    let at = ap (sort_at k.limits k.window k.marks) (sym c.away-d.ensures) ∙ sym c.sort_at.ensures in
    ⊎_elim
    (λ held.
    let e = at ∙ held in
    (c.repeated.ensures ∙ sym (data_by_lem k a.number Held is e a.flags), sym (mem_by_lem k a.number Held is e a.part.now a.mem.now), sym (lens_by_lem k a.number Held is e a.part.now a.lens.now)))
    (λ behind.
    let e = at ∙ behind in
    (c.repeated.ensures ∙ sym (data_by_lem k a.number Behind is e a.flags), sym (mem_by_lem k a.number Behind is e a.part.now a.mem.now), sym (lens_by_lem k a.number Behind is e a.part.now a.lens.now)))
    c.in-Held.is

pub returns-in-Other : goal.returns-in-Other
returns-in-Other c =
    let a = c.args in
    let k = a.c in
    let is = c.if-c-ne-OPEN.false in
    let e = ap (sort_at k.limits k.window k.marks) (sym c.away-d.ensures) ∙ sym c.sort_at.ensures ∙ c.in-Other.is in
    (c.failed.ensures ∙ sym (data_by_lem k a.number Other is e a.flags), sym (mem_by_lem k a.number Other is e a.part.now a.mem.now), sym (lens_by_lem k a.number Other is e a.part.now a.lens.now))
