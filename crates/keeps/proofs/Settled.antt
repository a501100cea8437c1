-- No call but settings changes a table's addresses and limits (document 01, Answer numbers: 'node settings and the table's addresses, which are fixed').
-- Assumes nothing.
use mathlib.Core.Path.{◌≡◌, refl, sym, ap₂, subst}
use mathlib.Core.Bool.{Bool, true, false}
use mathlib.Core.List.{List, [], ◌∷◌, map}
use Prim.Native.Nat.{ℕ}
use lib.Dec.{eqb}
use lib.ListN.{length, take, drop}
use lib.Seq.{map-set_same}
use Rattle.std.specs.Prelude.{if◌then◌else◌}
use Rattle.laws.proofs.Choice.{chosen}
use Rattle.walks.specs.Serving.{Worked, Called, Changed, works}
use Rattle.channel.specs.declared.record.Addresses.{Addresses}
use Rattle.channel.specs.declared.record.Limits.{Limits}
use Rattle.channel.specs.declared.record.Node.{Node}
use Rattle.channel.specs.declared.record.Channel.{Channel}
use Rattle.channel.specs.declared.answer.Answer.{Answer}
use Rattle.channel.specs.declared.answer.Refusal.TheVariants as refusal
use Rattle.channel.specs.declared.step.Stepped.{Stepped}
use Rattle.channel.specs.Record.{sends}
use Rattle.channel.specs.Steps.{refusing}
use Rattle.channel.specs.Pairs.{filed}
use Rattle.channel.proofs.StandingLaws.{stands_is}
use Rattle.sender_units.specs.Transfer.{transfer_step, transfer_mem, transfer_lens}
use Rattle.ends.proofs.SenderFixed.{transfer_fixed}
use Rattle.table.specs.declared.looking.Look.{Look}
use Rattle.table.specs.declared.looking.Sought.TheVariants.{Index, Ready}
use Rattle.table.specs.Looking.{seeking}
use Rattle.table.specs.Looking.{chosen as choice}
use Rattle.table.specs.Waiting.{rank_in}
use Rattle.table.specs.Lent.{each_stands, passes}
use Rattle.table.specs.Serving.{blank, record_at, own_mem, own_lens, Step, alone, stored, serve_one}
use Rattle.table.proofs.SurveyLaws.{stands_first}
use Rattle.table.proofs.ServeLaws.{passing_is}
use Rattle.requests.specs.Requests.{opened_by, closed_by, transfer_for, take_for, reclaim_for}
use Rattle.requests.specs.Handing.{next_for}
use Rattle.arrivals.specs.Finding.{look_of}
use Rattle.arrivals.specs.Arriving.{arrival_for}
use Rattle.ticks.specs.Ticks.{tick_of, ticked}
use Rattle.node.specs.Calls.{open_call, close_call, transfer_call, take_call, reclaim_call, next_packet_call, arrival_call}
use Rattle.keeps.specs.Keeping.{Given, Keeps, SettingsStay}
use Rattle.keeps.proofs.Serving.{served_at, worked, serve_cases}
use Rattle.keeps.proofs.StepsKeep.{open_keeps, close_keeps, take_keeps, reclaim_keeps, next_keeps, arrival_keeps, tick_keeps}
use Rattle.keeps.proofs.CallsKeep.{tick_unlawful_changes_nothing}

-- a step that changes neither
abbrev pub Fixing : Look → Step → List ℕ → Type 0
Fixing look step out =
    (at rank : ℕ) (c : Channel) (mem lens : List ℕ)
    → Given look at rank c mem lens
    → ((step c rank mem lens out).made.channel.addresses ≡ c.addresses) × ((step c rank mem lens out).made.channel.limits ≡ c.limits)

pub keeps_fixing : (look : Look) (step : Step) (out : List ℕ) → Keeps look step out → Fixing look step out
keeps_fixing look step out keeps at rank c mem lens g = let k = keeps at rank c mem lens g in (k.addresses, k.limits)

pub transfer_fixing : (look : Look) (unit out : List ℕ) → Fixing look (transfer_for unit) out
unfolding transfer_for
transfer_fixing look unit out at rank c mem lens g = go (eqb c.addresses.direction sends)
  where
    u : List ℕ
    u = filed c.limits unit

    by : Bool → Worked Stepped
    by b =
        if b then works (transfer_step c (length u)) (transfer_mem c u mem) (transfer_lens c u lens) out
        else works (refusing c refusal.State) mem lens out

    go : (b : Bool) → ((by b).made.channel.addresses ≡ c.addresses) × ((by b).made.channel.limits ≡ c.limits)
    go true = transfer_fixed c u
    go false = (refl, refl)

pub settings_stay : (look : Look) (step : Step) (t : List Channel) (mem lens lines out : List ℕ) → Fixing look step out
    → SettingsStay t (serve_one look step t mem lens lines out).table
unfolding stored
settings_stay look step t mem lens lines out fixing =
    serve_cases look step t mem lens lines out (λ (g : Called Answer Channel). SettingsStay t g.table) (refl, refl) (refl, refl)
    (λ h below g.
    let i = served_at look step t mem lens lines out in
    let k = (worked look step t mem lens lines out).made.channel in
    let f = fixing i (rank_in (choice look lines t).grade) (record_at t i) (own_mem t i mem) (own_lens t i lens) g in
    (map-set_same (λ (c : Channel). c.addresses) t i k blank f.0, map-set_same (λ (c : Channel). c.limits) t i k blank f.1))

-- ---- each call

module _ (t : List Channel) (mem lens lines : List ℕ) where
  pub arrival_settings_stay : (node : Node) (packet reply : List ℕ) → SettingsStay t (arrival_call t mem lens lines node packet reply).table
  arrival_settings_stay node packet reply =
      let look = look_of node packet (length reply) in
      settings_stay look (arrival_for node packet) t mem lens lines reply (keeps_fixing look (arrival_for node packet) reply (arrival_keeps node packet reply))

  pub next_packet_settings_stay : (node : Node) (out : List ℕ) → SettingsStay t (next_packet_call t mem lens lines node out).table
  next_packet_settings_stay node out = settings_stay (seeking Ready) (next_for node) t mem lens lines out (keeps_fixing (seeking Ready) (next_for node) out (next_keeps node out))

  pub open_settings_stay : (index : ℕ) → SettingsStay t (open_call t mem lens lines index).table
  open_settings_stay index =
      settings_stay (seeking (Index index)) (alone opened_by) t mem lens lines [] (keeps_fixing (seeking (Index index)) (alone opened_by) [] (open_keeps (seeking (Index index)) []))

  pub close_settings_stay : (index : ℕ) → SettingsStay t (close_call t mem lens lines index).table
  close_settings_stay index =
      settings_stay (seeking (Index index)) (alone closed_by) t mem lens lines [] (keeps_fixing (seeking (Index index)) (alone closed_by) [] (close_keeps (seeking (Index index)) []))

  pub transfer_settings_stay : (index : ℕ) (unit : List ℕ) → SettingsStay t (transfer_call t mem lens lines index unit).table
  transfer_settings_stay index unit = settings_stay (seeking (Index index)) (transfer_for unit) t mem lens lines [] (transfer_fixing (seeking (Index index)) unit [])

  pub take_settings_stay : (index : ℕ) (out : List ℕ) → SettingsStay t (take_call t mem lens lines index out).table
  take_settings_stay index out = settings_stay (seeking (Index index)) take_for t mem lens lines out (keeps_fixing (seeking (Index index)) take_for out (take_keeps (seeking (Index index)) out))

  pub reclaim_settings_stay : (index : ℕ) (out : List ℕ) → SettingsStay t (reclaim_call t mem lens lines index out).table
  reclaim_settings_stay index out =
      settings_stay (seeking (Index index)) reclaim_for t mem lens lines out (keeps_fixing (seeking (Index index)) reclaim_for out (reclaim_keeps (seeking (Index index)) out))

-- ---- a tick

each_stays : (t : List Channel) (lens : List ℕ) → each_stands t lens ≡ true → SettingsStay t (map tick_of t)
each_stays [] lens e = (refl, refl)
each_stays (c ∷ t) lens e =
    let p = stands_first c t lens e in
    let own = take c.limits.slots lens in
    let k = tick_keeps c own (stands_is c own p.0) in
    let r = each_stays t (drop c.limits.slots lens) p.1 in (
      ap₂ (λ (a : Addresses) (l : List Addresses). a ∷ l) k.0.0 r.0,
      ap₂ (λ (a : Limits) (l : List Limits). a ∷ l) k.0.1 r.1,
    )

pub tick_settings_stay : (t : List Channel) (mem lens lines : List ℕ) → SettingsStay t (ticked t mem lens lines).table
unfolding ticked
tick_settings_stay t mem lens lines = go (passes t mem lens lines) refl
  where
    Same : Changed Answer Channel → Type 0
    Same g = SettingsStay t g.table

    go : (b : Bool) → passes t mem lens lines ≡ b → SettingsStay t (ticked t mem lens lines).table
    go true e =
        subst Same (sym (chosen (passes t mem lens lines) _ _ e)) (each_stays t lens (passing_is t mem lens lines e).lawful.stand)
    go false e = subst Same (sym (tick_unlawful_changes_nothing t mem lens lines e)) (refl, refl)
