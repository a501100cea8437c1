-- The host before a call, with all that is known of it, and calls that leave the watched channel, or its phase alone changed.
-- Assumes nothing.
use mathlib.Core.Path.{◌≡◌, refl, sym, ap, ◌∙◌, subst}
use mathlib.Core.Bool.{Bool, true, false, true≢false}
use mathlib.Core.List.{List, ◌∷◌}
use mathlib.Core.Logic.{⊎_elim}
use Prim.Native.Nat.{ℕ, suc, ◌+◌, ◌≤◌, ◌<◌}
use native.Mathlib.Omega.{arith}
use borrow.Author.Tests.{ltb-true}
use lib.Dec.{ltb}
use lib.ListN.{length}
use Rattle.std.specs.Prelude.{if◌then◌else◌}
use Rattle.channel.specs.declared.record.Channel.{Channel}
use Rattle.channel.specs.declared.answer.Answer.{Answer}
use Rattle.channel.specs.Record as state
use Rattle.channel.specs.Asked.{Asked}
use Rattle.table.specs.Serving.{record_at, own_mem, own_lens}
use Rattle.protocol.specs.Ends.{Limits, Phase, fresh, opened, rank}
use Rattle.protocol.specs.Sending.{Sender, SenderCall, controlled}
use Rattle.protocol.specs.Receiving.{Receiver}
use Rattle.means.specs.Meaning.{state_of, limits_of}
use Rattle.means.proofs.Sends.{Sends, state_opened}
use Rattle.means.proofs.SenderHeld.{phase_cases}
use Rattle.means.proofs.SenderControl.{Moves}
use Rattle.delivery.specs.Calls.{End, Kind, opens, hands, Request, channel_of, counted_on, index_told}
use Rattle.delivery.specs.History.{host, Event, is, granted, written, names, IsData, Toward, openings, accepted, confirmed, reclaimed}
use Rattle.delivery.specs.Delivery.{rivals, Fresh, Alike}
use Rattle.delivery.proofs.Nodes.{end_with, same_addresses, same_limits, same_length, own_asked, small_window}
use Rattle.delivery.proofs.Known.{limits, InvOf, Numbered, Host}
use Rattle.delivery.proofs.Counting.{counted_on_lem}
use Rattle.delivery.proofs.HostFrame.{host_call, host_event, HostNext, host_next, host_quiet}
use Rattle.delivery.proofs.Own.{View}

-- the request with these arguments
abbrev pub asking : Kind → ℕ → List ℕ → List ℕ → Request
asking kind i u b = record { kind = kind; channel = i; octets = u; buffer = b }

-- all that is known of the host before a call
pub record HostAt (h s : End) (past : List Event) (x : Sender) (y : Receiver) (t : List Channel) (mem lens lines : List ℕ) (n : ℕ) : Type 0 where
  pub fresh_host : Fresh h
  pub alike : Alike h s
  pub inv : InvOf h s past x y
  pub numbered : Numbered h s past
  pub now : Host h past t mem lens n x

-- an opening that is not counted now was not before
pub none_opened : (b : Bool) (k : ℕ) → (if b then suc k else k) ≡ 0 → k ≡ 0
none_opened true k e = absurd (omega arith)
none_opened false k e = e

module _ {h s : End} {past : List Event} {x : Sender} {y : Receiver} {t : List Channel} {mem lens lines : List ℕ} {n : ℕ}
    (k : HostAt h s past x y t mem lens lines n) where
  -- ---- the channel that is watched

  abbrev pub own : Channel
  own = record_at t h.index

  abbrev pub octets : List ℕ
  octets = own_mem t h.index mem

  abbrev pub lengths : List ℕ
  lengths = own_lens t h.index lens

  pub own_below : h.index < length t
  own_below = omega (arith, k.fresh_host.below, same_length h t mem lens k.now.kept)

  pub own_addresses : own.addresses ≡ (channel_of h).addresses
  own_addresses = same_addresses h t mem lens k.now.kept h.index

  pub own_sends : own.addresses.direction ≡ state.sends
  own_sends = ap (λ a. a.direction) own_addresses ∙ k.alike.sends

  pub own_limits : limits_of own.limits ≡ limits h s
  own_limits = ap limits_of (same_limits h t mem lens k.now.kept h.index)

  pub asked : Asked own octets lengths
  asked = own_asked h t mem lens k.now.kept h.index own_below

  pub small : (limits h s).window ≤ 128
  small = subst (λ (l : Limits). l.window ≤ 128) own_limits (small_window h t mem lens k.now.kept h.index own_below)

  -- no other channel has its addresses
  pub alone_here : (j : ℕ) → j < length t → (j ≡ h.index → ⊥) → rivals (record_at t j).addresses (channel_of h).addresses ≡ true → ⊥
  alone_here j there apart e =
      let kept = k.now.kept in
      let none = k.fresh_host.alone j (omega (arith, there, same_length h t mem lens kept)) apart in
      true≢false (sym e ∙ ap (λ a. rivals a (channel_of h).addresses) (same_addresses h t mem lens kept j) ∙ none)

  -- ---- what is to be shown, as a view of the channel after the call

  -- the index that a call tells
  abbrev pub index_for : Request → ℕ
  index_for r = index_told (end_with h t mem lens lines n) r

  abbrev pub Next : Request → ℕ → View
  Next r copy a o c m l = HostNext h s past y x (host_event r copy n (index_for r) a o) n own c m l

  pub waits_on : (e : Event) → openings host h.index (e ∷ past) ≡ 0 → x.phase ≡ fresh
  waits_on e q = k.now.waits (none_opened (granted host opens h.index e) (openings host h.index past) q)

  -- nothing is changed
  pub stays_so : (r : Request) (copy : ℕ) (a : Answer) (o : List ℕ)
      → accepted h (host_event r copy n (index_for r) a o ∷ past) ≡ accepted h past
      → confirmed h (host_event r copy n (index_for r) a o ∷ past) ≡ confirmed h past
      → reclaimed h (host_event r copy n (index_for r) a o ∷ past) ≡ reclaimed h past
      → ((packet : List ℕ) → is host hands (host_call r copy) ≡ true → written (host_event r copy n (index_for r) a o) ≡ packet → Toward h (index_for r) → names s packet ≡ true → IsData packet → ⊥)
      → Next r copy a o own octets lengths
  stays_so r copy a o acc cnt back none =
      host_quiet h s past y x k.inv k.numbered small r copy n (index_for r) a o own octets lengths acc cnt back none k.now.means k.now.counted
      (waits_on (host_event r copy n (index_for r) a o))

  -- ---- the count, where the record means another sender afterwards

  pub counts : (c : Channel) (m l : List ℕ) (z : Sender) → Sends c m l z
      → x.start ≤ z.start
      → z.start < x.start + 256
      → (z.phase ≡ opened → (1 ≤ rank x.phase) × (rank x.phase ≤ 2))
      → ((z.phase ≡ opened → ⊥) → x.start ≡ z.start)
      → counted_on n own c ≡ z.start
  counts c m l z means low high was still =
      counted_on_lem n x.start z.start own c k.now.counted low high
      (λ q. let w = was (is_open_lem q) in (k.now.means.window w.0 w.1).number)
      (λ q. let w : rank z.phase ≡ 2 = ap rank (is_open_lem q) in (means.window (omega arith) (omega arith)).number)
      (λ q. still (λ p. q (means.state ∙ ap (λ v. state_of v) p)))
    where
      is_open_lem : c.phase.state ≡ state.opened → z.phase ≡ opened
      is_open_lem q = state_opened z.phase (sym means.state ∙ q)

  -- the same start, and OPEN only from ENABLED or OPEN
  pub counts_same : (c : Channel) (m l : List ℕ) (z : Sender) → Sends c m l z
      → z.start ≡ x.start
      → (z.phase ≡ opened → (1 ≤ rank x.phase) × (rank x.phase ≤ 2))
      → counted_on n own c ≡ z.start
  counts_same c m l z means at was = counts c m l z means (omega (arith, at)) (omega (arith, at)) was (λ _. sym at)

  -- OPEN already
  pub was_open : {p : Phase} → p ≡ x.phase → p ≡ opened → (1 ≤ rank x.phase) × (rank x.phase ≤ 2)
  was_open e q = let z : rank x.phase ≡ 2 = ap rank (sym e ∙ q) in (omega arith, omega arith)

  -- ---- a step that moves the phase on, or leaves it

  pub moved_start : (b : Bool) (p : Phase) → (controlled b x p).0.start ≡ x.start
  moved_start true p = refl
  moved_start false p = refl

  moved_was : (b : Bool) (p : Phase) → ltb (rank x.phase) (rank p) ≡ b → (x.phase ≡ fresh → p ≡ fresh) → (controlled b x p).0.phase ≡ opened
      → (1 ≤ rank x.phase) × (rank x.phase ≤ 2)
  moved_was false p e w q = let z : rank x.phase ≡ 2 = ap rank q in (omega arith, omega arith)
  moved_was true p e w q =
      let z : rank p ≡ 2 = ap rank q in
      let l : rank x.phase < rank p = ltb-true (rank x.phase) (rank p) e in (
        ⊎_elim (λ f. let o : rank p ≡ 0 = ap rank (w f) in absurd (omega arith)) (λ r. r) (phase_cases x.phase),
        omega arith,
      )

  moved_fresh : (b : Bool) (p : Phase) → x.phase ≡ fresh → p ≡ fresh → (controlled b x p).0.phase ≡ fresh
  moved_fresh true p f e = e
  moved_fresh false p f e = f

  pub moves_on : (r : Request) (copy : ℕ) (a : Answer) (o : List ℕ)
      → accepted h (host_event r copy n (index_for r) a o ∷ past) ≡ accepted h past
      → confirmed h (host_event r copy n (index_for r) a o ∷ past) ≡ confirmed h past
      → reclaimed h (host_event r copy n (index_for r) a o ∷ past) ≡ reclaimed h past
      → is host hands (host_call r copy) ≡ false
      → (c : Channel) → Moves own c octets lengths x
      → Next r copy a o c octets lengths
  moves_on r copy a o acc cnt back none c w =
      let b = ltb (rank x.phase) (rank w.phase) in
      let z = (controlled b x w.phase).0 in
      host_next h s past y x k.inv k.numbered small r copy n (index_for r) a o (SenderCall.control w.phase) tt tt acc cnt back
      (λ j packet q. absurd (true≢false (sym q ∙ none)))
      own c octets lengths w.related
      (counts_same c octets lengths z w.related (moved_start b w.phase) (moved_was b w.phase refl w.waits))
      (λ q. let f = waits_on (host_event r copy n (index_for r) a o) q in moved_fresh b w.phase f (w.waits f))
