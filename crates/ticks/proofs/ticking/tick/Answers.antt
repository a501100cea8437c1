-- `ticks::ticking::tick` meets its contract: a table that passes the test may be swept, and the call is `ticked`.
use Rattle.std.proofs.Common.{◌≡◌, ◌∙◌, sym, ap, ap₂, List, ℕ, true, false, length}
use Rattle.walks.specs.Serving.{changes, done_by}
use Rattle.channel.specs.declared.record.Channel.{Channel}
use Rattle.channel.specs.declared.answer.Refusal.TheVariants as refusal
use Rattle.table.specs.declared.looking.Sought.TheVariants.{Nobody}
use Rattle.table.specs.declared.deciding.Verdict.{Verdict}
use Rattle.table.specs.declared.surveying.Survey.{Survey}
use Rattle.table.specs.Looking.{seeking}
use Rattle.table.specs.Surveying.{begun, surveyed, judged, is_sound}
use Rattle.ticks.specs.declared.ticking.Round.{Round}
use Rattle.ticks.specs.Ticks.{swept_table, swept_round, tick_start, tick_end, end_lines}
use Rattle.ticks.proofs.SweepLaws.{may_tick, tick_agreed}
use Rattle.ticks.proofs.ticking.tick.Goals as goal

-- the survey of a tick
abbrev seen : List Channel → List ℕ → List ℕ → Survey
seen t lens lines = surveyed t lens (begun (seeking (Nobody refusal.NoChannel)) lines)

-- what is decided of it
decides : (t : List Channel) (mem lens lines : List ℕ) (a v : Survey) (d : Verdict)
    → a ≡ begun (seeking (Nobody refusal.NoChannel)) lines → v ≡ surveyed t lens a → d ≡ judged v (length t) (length mem) (length lens)
    → d ≡ judged (seen t lens lines) (length t) (length mem) (length lens)
decides t mem lens lines a v d p q r = r ∙ ap (λ (w : Survey). judged w (length t) (length mem) (length lens)) (q ∙ ap (surveyed t lens) p)

pub tick_all-z-requires : goal.tick_all-z-requires
tick_all-z-requires c =
    let a = c.args in
    let d = decides a.t.now a.mem.now a.lens.now a.lines.now c.tick_begin-a.result c.survey-v.result c.judge-d.result c.tick_begin-a.ensures c.survey-v.ensures c.judge-d.ensures in
    may_tick a.t.now a.mem.now a.lens.now a.lines.now (sym (ap (λ (w : Verdict). w.ok) d) ∙ c.if-d.true)

pub returns-then-d : goal.returns-then-d
unfolding done_by
returns-then-d c =
    let a = c.args in
    let d = decides a.t.now a.mem.now a.lens.now a.lines.now c.tick_begin-a.result c.survey-v.result c.judge-d.result c.tick_begin-a.ensures c.survey-v.ensures c.judge-d.ensures in
    let e : is_sound (seen a.t.now a.lens.now a.lines.now) (length a.t.now) (length a.mem.now) (length a.lens.now) ≡ true = sym (ap (λ (w : Verdict). w.ok) d) ∙ c.if-d.true in
    let h = simp (e) at (tick_agreed a.t.now a.mem.now a.lens.now a.lines.now) in
    let k : c.tick_start-k.result ≡ tick_start a.lines.now = c.tick_start-k.ensures in
    let z : c.tick_all-z.result ≡ swept_round a.t.now (tick_start a.lines.now) = c.tick_all-z.ensures.0 ∙ ap (swept_round a.t.now) k in
    let t : c.tick_all-z.new.t ≡ swept_table a.t.now (tick_start a.lines.now) = c.tick_all-z.ensures.1 ∙ ap (swept_table a.t.now) k in
    let r : c.tick_end-r.result ≡ tick_end (swept_round a.t.now (tick_start a.lines.now)) = c.tick_end-r.ensures.0 ∙ ap tick_end z in
    let l : c.tick_end-r.new.lines ≡ end_lines (swept_round a.t.now (tick_start a.lines.now)) a.lines.now = c.tick_end-r.ensures.1 ∙ ap (λ (w : Round). end_lines w a.lines.now) z in
    ap₂ (λ w ys. changes w ys c.tick_end-r.new.lines) r t ∙ ap (changes (tick_end (swept_round a.t.now (tick_start a.lines.now))) (swept_table a.t.now (tick_start a.lines.now))) l ∙ h

pub returns-else-d : goal.returns-else-d
unfolding done_by
returns-else-d c =
    let a = c.args in
    let d = decides a.t.now a.mem.now a.lens.now a.lines.now c.tick_begin-a.result c.survey-v.result c.judge-d.result c.tick_begin-a.ensures c.survey-v.ensures c.judge-d.ensures in
    let e : is_sound (seen a.t.now a.lens.now a.lines.now) (length a.t.now) (length a.mem.now) (length a.lens.now) ≡ false = sym (ap (λ (w : Verdict). w.ok) d) ∙ c.if-d.false in
    let h = simp (e) at (tick_agreed a.t.now a.mem.now a.lens.now a.lines.now) in
    ap (λ (w : Verdict). changes w.told a.t.now a.lines.now) d ∙ h
