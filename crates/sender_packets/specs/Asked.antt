-- What the hand-out asks of its caller, who has tested it.
use Rattle.std.specs.Prelude.{◌≡◌, ℕ, ◌<◌, ◌≤◌, true, false}
use Rattle.packet.specs.declared.fields.Fields.{Fields}
use Rattle.packet.specs.Tests.{lacking, strange}
use Rattle.channel.specs.declared.record.Addresses.{Addresses}
use Rattle.channel.specs.declared.record.Channel.{Channel}
use Rattle.channel.specs.Prefixes.{fit_prefix}
use Rattle.sender_packets.specs.HandingOut.{ready}

-- a packet of this rank is ready
pub record Ready (c : Channel) (rank : ℕ) : Type 0 where
  pub is : ready rank c ≡ true
  pub some : rank < 3

-- a packet that its writer does not refuse, with the own prefix: tests 4 and 3 pass
pub record Plain (a : Addresses) (f : Fields) (x : ℕ) : Type 0 where
  pub fits : fit_prefix a.own ≡ true
  pub base : lacking f a.own.length ≡ false
  pub plain : strange f x ≡ false
  pub short : x ≤ 1024
