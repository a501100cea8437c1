-- Demand 3, stated of the real calls.
-- Two nodes, each with any table of channels. One channel sends at the host and receives at the subscriber; of it, one opening is looked at.
-- Whatever is called at the two nodes, on this channel or any other, in any order, and whatever the link loses, repeats, delays, reorders or
-- damages: no unit comes through that was not accepted, none twice, none out of order, none changed; a unit that the host was told is confirmed has
-- come through; and each unit accepted is confirmed, reclaimed or held, one of the three.
-- docs/ANSWERS.md goes through it sentence by sentence.
use Rattle.std.specs.Prelude.{ℕ, ◌+◌, ◌-◌, ◌≤◌, ◌<◌, ◌≡◌, Bool, true, false, ◌&&◌, List, [], ◌∷◌, ◌++◌, eqb, length, take}
use Rattle.walks.specs.Serving.{Called}
use Rattle.channel.specs.declared.record.Addresses.{Addresses}
use Rattle.channel.specs.declared.record.Channel.{Channel}
use Rattle.channel.specs.declared.answer.Answer.{Answer}
use Rattle.channel.specs.Record.{sends, receives, closed, held_in}
use Rattle.channel.specs.Settings.{clash}
use Rattle.table.specs.Lent.{lawful}
use Rattle.table.specs.Serving.{record_at}
use Rattle.keeps.specs.Keeping.{Wide}
use Rattle.means.specs.Meaning.{limits_of}
use Rattle.delivery.specs.Calls.{End, opens, arrives, called, index_told, channel_of, units_of, after_call}
use Rattle.delivery.specs.History.{Side, host, subscriber, Call, Event, is, granted, binds, IsData, IsDataAck, HandedOut, Replied, openings, accepted, confirmed, reclaimed, taken}

-- ---- the two ends at the beginning

-- one packet would be for both
abbrev pub rivals : Addresses → Addresses → Bool
rivals a b = clash a b && eqb a.direction b.direction

-- A table as our calls alone leave it: it passes the test for 13, the lines apart, and no other record has the addresses of this channel (settings
-- refuse that, and more).
-- `wide` is no premise on the caller: the type of records fixes it. The channel is CLOSED and holds nothing, whatever came before.
pub record Fresh (e : End) : Type 0 where
  pub stands : lawful e.table e.mem e.lens ≡ true
  pub wide : Wide e.table
  pub below : e.index < length e.table
  pub alone : (j : ℕ)
      → j < length e.table
      → (j ≡ e.index → ⊥)
      → rivals (record_at e.table j).addresses (channel_of e).addresses ≡ false
  pub state : (channel_of e).phase.state ≡ closed
  pub empty : held_in (channel_of e).window ≡ 0
  pub start : e.start ≡ 0

-- 'both ends configured alike': the same channel number, window, slots, P and M, the addresses exchanged, with their prefixes
pub record Alike (h s : End) : Type 0 where
  pub protocol : h.node.protocol ≡ s.node.protocol
  pub number : (channel_of h).addresses.channel ≡ (channel_of s).addresses.channel
  pub to_subscriber_end : (channel_of h).addresses.remote ≡ s.node.address
  pub to_host_end : (channel_of s).addresses.remote ≡ h.node.address
  pub subscriber_prefix : (channel_of h).addresses.prefix ≡ (channel_of s).addresses.own
  pub host_prefix : (channel_of s).addresses.prefix ≡ (channel_of h).addresses.own
  pub sends : (channel_of h).addresses.direction ≡ sends
  pub receives : (channel_of s).addresses.direction ≡ receives
  pub limits : limits_of (channel_of h).limits ≡ limits_of (channel_of s).limits

-- ---- a run: what has happened, the latest first, and both nodes

pub record Run : Type 0 where
  pub past : List Event
  pub host : End
  pub subscriber : End

-- no packet of this channel is on the link: only what is in the history can arrive
abbrev pub begin : End → End → Run
begin h s = record { past = []; host = h; subscriber = s }

abbrev pub end_of : Run → Side → End
end_of w host = w.host
end_of w subscriber = w.subscriber

abbrev pub outcome : Run → Call → Called Answer Channel
outcome w c = called (end_of w c.side) c.request

abbrev pub event_by : Run → Call → Called Answer Channel → Event
event_by w c g =
    record { call = c; started = (end_of w c.side).start; index = index_told (end_of w c.side) c.request; answer = g.answer; out = g.out }

abbrev pub event_of : Run → Call → Event
event_of w c = event_by w c (outcome w c)

-- the node that is called is left as the call leaves it, the other as it was
abbrev pub moved : Side → Run → Call → Called Answer Channel → Run
moved host w c g = record { past = event_by w c g ∷ w.past; host = after_call w.host g; subscriber = w.subscriber }
moved subscriber w c g = record { past = event_by w c g ∷ w.past; host = w.host; subscriber = after_call w.subscriber g }

abbrev pub step : Run → Call → Run
step w c = moved c.side w c (outcome w c)

abbrev pub run : Run → List Call → Run
run w [] = w
run w (c ∷ l) = run (step w c) l

-- ---- the premises on a call

-- the window of the end that gets it has started at most 256 - k past the segment
abbrev pub NotLate : End → ℕ → Type 0
NotLate e i = e.start ≤ i + (256 - (channel_of e).limits.window)

-- Calls are free, but for what the link may bring and for a second opening. A packet lost is no arrival. What arrives damaged, or for another
-- channel, does not name this channel, and is any octets; so is a Heartbeat or its Ack. What else names it is a copy of a packet that the other end handed out or replied, toward this
-- end, at any later time, any number of times; and Data or a Data Ack is not late.
pub record Fair (h s : End) (w : Run) (c : Call) : Type 0 where
  pub at_subscriber : is subscriber arrives c ≡ true
      → binds s c.request.octets ≡ true
      → HandedOut h w.past c.copy_of c.request.octets × (IsData c.request.octets → NotLate w.subscriber c.copy_of)
  pub at_host_end : is host arrives c ≡ true
      → binds h c.request.octets ≡ true
      → Replied s w.past c.copy_of c.request.octets × (IsDataAck c.request.octets → NotLate w.host c.copy_of)
  -- 'one opening': no second Open directive is accepted at either end
  pub opens_host : granted host opens h.index (event_of w c) ≡ true → openings host h.index w.past ≡ 0
  pub opens_subscriber : granted subscriber opens s.index (event_of w c) ≡ true → openings subscriber s.index w.past ≡ 0

abbrev pub AllFair : End → End → Run → List Call → Type 0
AllFair h s w [] = Unit {0}
AllFair h s w (c ∷ l) = Fair h s w c × AllFair h s (step w c) l

-- ---- what is claimed

pub record Delivered (h s : End) (w : Run) : Type 0 where
  -- how many units have come through
  pub through : ℕ
  pub among : through ≤ length (accepted h w.past)
  -- what was taken, then what waits complete, are the first units accepted: octet for octet, in order, each once, none left out, none made up
  pub in_order : taken s w.past ++ units_of w.subscriber ≡ take through (accepted h w.past)
  -- every unit that the host was told is confirmed is among them
  pub confirmed_through : confirmed h w.past ≤ through
  -- the accepted units are exactly the confirmed ones, then those reclaimed, then those still held
  pub accounted : accepted h w.past ≡ take (confirmed h w.past) (accepted h w.past) ++ reclaimed h w.past ++ units_of w.host

-- after any calls
abbrev pub Demand3 : Type 0
Demand3 =
    (h s : End)
    → Fresh h
    → Fresh s
    → Alike h s
    → (l : List Call)
    → AllFair h s (begin h s) l
    → Delivered h s (run (begin h s) l)
