-- What an Ack states is recorded (document 02, A5; 000, 4.4.4.6: 'Upon the reception of a Data Ack, Control Ack, or Flow Control Packet, the Transmit TEP
-- shall record the MASN contained in the Packet'). An Ack that is not taken changes nothing.
use Rattle.std.specs.Prelude.{ℕ, Bool, true, false, ◌&&◌, ◌==◌, if◌then◌else◌}
use Rattle.channel.specs.declared.record.Pulse.{Pulse}
use Rattle.channel.specs.declared.record.Channel.{Channel}
use Rattle.channel.specs.declared.answer.Answer.{Answer}
use Rattle.channel.specs.declared.answer.Answer.TheVariants.{Done, Repeated, Inactive, Refused}
use Rattle.channel.specs.declared.step.Stepped.{Stepped}
use Rattle.channel.specs.Record.{opened, with_pulse}
use Rattle.channel.specs.Flow.{recording, recorded_first}
use Rattle.sender_acks.specs.Acks.{control_ack_step, data_ack_step}

-- the Ack was taken
abbrev pub is_taken : Answer → Bool
is_taken (Done n u) = true
is_taken (Repeated n) = false
is_taken (Inactive why) = false
is_taken (Refused why) = false

abbrev pub with_stated : Stepped → Pulse → Stepped
with_stated s p = record { channel = with_pulse s.channel p; answer = s.answer }

-- of Data, which states so much: by the highest number sent, which an Ack leaves as it is
abbrev pub heeding : Channel → ℕ → Stepped → Stepped
heeding c stated s = with_stated s (if is_taken s.answer then recording c.limits c.window stated s.channel.pulse else s.channel.pulse)

unfoldable pub data_ack_stated : Channel → ℕ → ℕ → Stepped
data_ack_stated c number stated = heeding c stated (data_ack_step c number)

-- of the Open: the first number; out of OPEN none is recorded
abbrev pub heeding_first : ℕ → Stepped → Stepped
heeding_first stated s =
    with_stated s (if is_taken s.answer && s.channel.phase.state == opened then recorded_first stated s.channel.pulse else s.channel.pulse)

unfoldable pub control_ack_stated : Channel → ℕ → ℕ → Stepped
control_ack_stated c number stated = heeding_first stated (control_ack_step c number)
