-- What the settings fixed: a step that keeps it, and the standing condition, keeps what the steps ask.
-- Assumes nothing.
use Rattle.std.proofs.Common.{◌≡◌, ℕ, List, sym, subst}
use Rattle.slots.specs.Slots.{Sized}
use Rattle.channel.specs.declared.record.Limits.{Limits}
use Rattle.channel.specs.declared.record.Channel.{Channel}
use Rattle.channel.specs.Standing.{Standing}
use Rattle.channel.specs.Asked.{Asked}

-- the addresses and the limits of c
abbrev pub SameSettings : Channel → Channel → Type 0
SameSettings c k = (k.addresses ≡ c.addresses) × (k.limits ≡ c.limits)

pub asked_again : (c k : Channel) (mem lens : List ℕ) → SameSettings c k → Standing k lens
    → Sized c.limits.slots c.limits.payload mem lens → Asked k mem lens
asked_again c k mem lens same h z =
    record { standing = h; sized = subst (λ (l : Limits). Sized l.slots l.payload mem lens) (sym same.1) z }
