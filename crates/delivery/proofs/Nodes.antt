-- What a node keeps over every call, whatever it is: it passes the test for 13, and its addresses and limits are those of the beginning.
-- Assumes nothing.
use mathlib.Core.Path.{◌≡◌, refl, sym, ap, ◌∙◌, subst}
use mathlib.Core.Bool.{true}
use mathlib.Core.List.{List, [], ◌∷◌, map}
use Prim.Native.Nat.{ℕ, zero, suc, ◌≤◌, ◌<◌}
use native.Mathlib.Omega.{arith}
use lib.ListN.{length, drop, get_or, length-map, length-drop}
use lib.Seq.{length-take-le}
use Rattle.walks.specs.Serving.{Called}
use Rattle.channel.specs.declared.record.Channel.{Channel}
use Rattle.channel.specs.declared.answer.Answer.{Answer}
use Rattle.channel.specs.Asked.{Asked}
use Rattle.channel.proofs.SettingsLaws.{fit_is}
use Rattle.channel.proofs.StandingLaws.{stands_is}
use Rattle.table.specs.Lent.{area_of, octet_at, lawful}
use Rattle.channel.proofs.PrefixLaws.{same_itself}
use Rattle.table.specs.Serving.{blank, record_at, own_mem, own_lens}
use Rattle.table.proofs.SurveyLaws.{each_stands_lem}
use Rattle.table.proofs.ServeLaws.{lawful_is}
use Rattle.node.specs.declared.request.Request as door
use Rattle.node.specs.declared.request.Request.TheVariants.{Open, Close, Transfer, WouldTransfer, Take, Reclaim, Arrival, NextPacket, Unknown}
use Rattle.keeps.specs.Keeping.{Wide, SettingsStay}
use Rattle.keeps.proofs.Serving.{octets_inside}
use Rattle.keeps.proofs.CallsKeep.{tick_lawful}
use Rattle.keeps.proofs.Marks.{tick_wide}
use Rattle.keeps.proofs.Settled.{tick_settings_stay}
use Rattle.keeps.proofs.DoorKeeps.{served_lawful, served_wide, served_settings_stay}
use Rattle.delivery.specs.Calls.{End, Kind, opens, closes, transfers, asks, takes, reclaims, hands, arrives, strays, ticks, Request, at_door, called_by, channel_of}
use Rattle.delivery.specs.History.{Toward}

-- the node of the beginning, with what is lent now
abbrev pub end_with : End → List Channel → List ℕ → List ℕ → List ℕ → ℕ → End
end_with e t mem lens lines n = record { node = e.node; table = t; mem = mem; lens = lens; lines = lines; index = e.index; start = n }

pub record Kept (e : End) (t : List Channel) (mem lens : List ℕ) : Type 0 where
  pub stands : lawful t mem lens ≡ true
  pub wide : Wide t
  pub settings : SettingsStay e.table t

abbrev pub KeptBy : End → Called Answer Channel → Type 0
KeptBy e g = Kept e g.table g.mem g.lens

-- ---- the addresses and limits of each record

same_count : {A : Type 0} (f : Channel → A) (t u : List Channel) → map f t ≡ map f u → length t ≡ length u
same_count f t u e = sym (length-map t f) ∙ ap length e ∙ length-map u f

pub same_at : {A : Type 0} (f : Channel → A) (t u : List Channel) (j : ℕ) → map f t ≡ map f u → f (record_at t j) ≡ f (record_at u j)
same_at f t u j e = sym (mapped f t j) ∙ ap (λ (l : List _). get_or l j (f blank)) e ∙ mapped f u j
  where
    mapped : {A : Type 0} (f : Channel → A) (t : List Channel) (j : ℕ) → get_or (map f t) j (f blank) ≡ f (record_at t j)
    mapped f [] j = refl
    mapped f (c ∷ t) zero = refl
    mapped f (c ∷ t) (suc j) = mapped f t j

module _ (e : End) (t : List Channel) (mem lens : List ℕ) (k : Kept e t mem lens) where
  pub same_length : length t ≡ length e.table
  same_length = same_count (λ c. c.addresses) t e.table k.settings.0

  pub same_addresses : (j : ℕ) → (record_at t j).addresses ≡ (record_at e.table j).addresses
  same_addresses j = same_at (λ c. c.addresses) t e.table j k.settings.0

  pub same_limits : (j : ℕ) → (record_at t j).limits ≡ (record_at e.table j).limits
  same_limits j = same_at (λ c. c.limits) t e.table j k.settings.1

  -- what the steps of a record ask
  pub own_asked : (j : ℕ) → j < length t → Asked (record_at t j) (own_mem t j mem) (own_lens t j lens)
  own_asked j below =
      let law = lawful_is t mem lens k.stands in
      let c = record_at t j in
      let stand = stands_is c (own_lens t j lens) (each_stands_lem t lens law.stand j below) in
      let fit = fit_is c.limits stand.fit in
      let inside = octets_inside t mem lens law j below in
      record {
        standing = stand;
        sized =
            record {
              few = fit.most;
              short = fit.payload;
              each = stand.count;
              exact = length-take-le (area_of c.limits) (drop (octet_at t j) mem) (omega (arith, length-drop (octet_at t j) mem, inside));
            };
      }

  pub small_window : (j : ℕ) → j < length t → (record_at t j).limits.window ≤ 128
  small_window j below = (fit_is (record_at t j).limits (own_asked j below).standing.fit).window

-- ---- every call

stays_on : (t u v : List Channel) → SettingsStay t u → SettingsStay u v → SettingsStay t v
stays_on t u v a b = (b.0 ∙ a.0, b.1 ∙ a.1)

pub kept_called : (e : End) (t : List Channel) (mem lens lines : List ℕ) (n : ℕ) → Kept e t mem lens → (kind : Kind) (r : Request)
    → KeptBy e (called_by kind (end_with e t mem lens lines n) r)
kept_called e t mem lens lines n k kind r = go kind
  where
    done : (g : Called Answer Channel) → lawful g.table g.mem g.lens ≡ true → Wide g.table → SettingsStay t g.table → KeptBy e g
    done g a b c = record { stands = a; wide = b; settings = stays_on e.table t g.table k.settings c }

    by_door : (asked : door.Request) → KeptBy e (at_door (end_with e t mem lens lines n) r asked)
    by_door asked =
        done (at_door (end_with e t mem lens lines n) r asked) (served_lawful t mem lens lines asked r.octets r.buffer k.wide k.stands)
        (served_wide t mem lens lines asked r.octets r.buffer k.wide) (served_settings_stay t mem lens lines asked r.octets r.buffer)

    go : (kind : Kind) → KeptBy e (called_by kind (end_with e t mem lens lines n) r)
    go opens = by_door (Open r.channel)
    go closes = by_door (Close r.channel)
    go transfers = by_door (Transfer r.channel)
    go asks = by_door (WouldTransfer r.channel (length r.octets))
    go takes = by_door (Take r.channel)
    go reclaims = by_door (Reclaim r.channel)
    go hands = by_door (NextPacket e.node)
    go arrives = by_door (Arrival e.node)
    go strays = by_door Unknown
    go ticks = done (called_by ticks (end_with e t mem lens lines n) r) (tick_lawful t mem lens lines k.stands) (tick_wide t mem lens lines k.wide) (tick_settings_stay t mem lens lines)

-- a packet of the watched channel goes where its packets go
pub toward_itself : (e : End) (j : ℕ) → j ≡ e.index → Toward e j
toward_itself e j i = subst (Toward e) (sym i) (same_itself (channel_of e).addresses.prefix)
