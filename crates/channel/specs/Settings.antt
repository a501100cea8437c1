-- Which settings are fit; all others are refused with 13 (document 01, A channel's record and memory).
use Rattle.std.specs.Prelude.{◌≡◌, ℕ, ◌%◌, ◌≤◌, Bool, ◌&&◌, ◌||◌, ◌==◌, ◌≢◌, nat_le}
use Rattle.channel.specs.declared.record.Addresses.{Addresses}
use Rattle.channel.specs.declared.record.Limits.{Limits}
use Rattle.channel.specs.declared.record.Settings.{Settings}
use Rattle.channel.specs.Record.{receives}
use Rattle.channel.specs.Prefixes.{fit_prefix, same_prefix}

-- the most for the window (document 02, A1; 000, 4.4.4.3): a sender and its receiver tell numbers apart up to it
abbrev pub most_window : ℕ
most_window = 128

-- window k a power of two, 1 to 128 (what divides 128 is a power of two); slots from k to 128
unfoldable pub fit_window : Limits → Bool
fit_window l =
    nat_le 1 l.window
    && most_window % l.window == 0
    && nat_le l.window l.slots
    && nat_le l.slots 128

-- P, the most payload octets, 1 to 1,024; M, the most segments in a unit, 1 to slots
unfoldable pub fit_units : Limits → Bool
fit_units l = nat_le 1 l.payload && nat_le l.payload 1024 && nat_le 1 l.segments && nat_le l.segments l.slots

-- timeout and close timeout 1 to 65,535 ticks; retries 0 to 255
unfoldable pub fit_timers : Limits → Bool
fit_timers l = nat_le 1 l.timeout && nat_le 1 l.closing && nat_le l.retries 255

-- the spare is none (0) or one of 16, by its index and 1 more; a unit has a leading octet (1) or not (0), and has one where a spare is named (document 02, A13)
unfoldable pub fit_route : Limits → Bool
fit_route l = nat_le l.spare 16 && nat_le l.lead 1 && (l.spare == 0 || l.lead == 1)

-- Flow Control is used (1) or not (0)
unfoldable pub fit_limits : Limits → Bool
fit_limits l = fit_window l && fit_units l && fit_timers l && nat_le l.flow 1 && fit_route l

-- a direction has a meaning, and a prefix at most 15 octets, with 0 past them (document 02, A7)
unfoldable pub fit_addresses : Addresses → Bool
fit_addresses a = nat_le a.direction receives && fit_prefix a.prefix && fit_prefix a.own

unfoldable pub fit : Settings → Bool
fit s = fit_addresses s.addresses && fit_limits s.limits

-- the same as facts, as far as the laws need them
pub record Fit (l : Limits) : Type 0 where
  pub some : 1 ≤ l.window
  pub window : l.window ≤ 128
  pub slots : l.window ≤ l.slots
  pub most : l.slots ≤ 128
  pub octet : 1 ≤ l.payload
  pub payload : l.payload ≤ 1024
  pub segment : 1 ≤ l.segments
  pub segments : l.segments ≤ l.slots
  pub timeout : 1 ≤ l.timeout
  pub closing : 1 ≤ l.closing
  pub retries : l.retries ≤ 255
  pub flow : l.flow ≤ 1
  pub spare : l.spare ≤ 16
  pub lead : l.lead ≤ 1
  pub led : (l.spare ≢ 0) → l.lead ≡ 1

-- two records that may not stand in one table: equal channel number, remote address and remote prefix, whatever their directions (document 02, A2:
-- 'Where no field tells its end, records that differ only in direction give 13'); an own prefix is not seen in what arrives
unfoldable pub clash : Addresses → Addresses → Bool
clash a b =
    (a.channel == b.channel)
    && a.remote == b.remote
    && same_prefix a.prefix b.prefix
