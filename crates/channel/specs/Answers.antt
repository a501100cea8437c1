-- The number and the values of each answer (document 01, Answer numbers).
use Rattle.std.specs.Prelude.{ℕ}
use Rattle.packet.specs.declared.reading.ReadError.{ReadError}
use Rattle.packet.specs.declared.reading.ReadError.TheVariants as read
use Rattle.channel.specs.declared.answer.Answer.{Answer}
use Rattle.channel.specs.declared.answer.Answer.TheVariants.{Done, Repeated, Inactive, Refused}
use Rattle.channel.specs.declared.answer.Refusal.{Refusal}
use Rattle.channel.specs.declared.answer.Refusal.TheVariants as refusal

abbrev pub refusal_number : Refusal → ℕ
refusal_number refusal.Short = 1
refusal_number refusal.Damaged = 2
refusal_number refusal.Strange = 3
refusal_number refusal.Lacking = 4
refusal_number refusal.State = 5
refusal_number refusal.Long = 6
refusal_number refusal.NoRoom = 7
refusal_number refusal.Full = 8
refusal_number refusal.Untaken = 10
refusal_number (refusal.Small n) = 11
refusal_number refusal.Nothing = 12
refusal_number refusal.Settings = 13
refusal_number refusal.NoChannel = 14
refusal_number refusal.Ignored = 16

abbrev pub number_of : Answer → ℕ
number_of (Done n u) = 0
number_of (Repeated n) = 15
number_of (Inactive why) = 9
number_of (Refused r) = refusal_number r

-- with 0 and 15: how many octets were written
abbrev pub length_of : Answer → ℕ
length_of (Done n u) = n
length_of (Repeated n) = n
length_of (Inactive why) = 0
length_of (Refused r) = 0

-- with 11: how many octets the lent buffer must have
abbrev pub wanted_by : Refusal → ℕ
wanted_by (refusal.Small n) = n
wanted_by refusal.Short = 0
wanted_by refusal.Damaged = 0
wanted_by refusal.Strange = 0
wanted_by refusal.Lacking = 0
wanted_by refusal.State = 0
wanted_by refusal.Long = 0
wanted_by refusal.NoRoom = 0
wanted_by refusal.Full = 0
wanted_by refusal.Untaken = 0
wanted_by refusal.Nothing = 0
wanted_by refusal.Settings = 0
wanted_by refusal.NoChannel = 0
wanted_by refusal.Ignored = 0

abbrev pub wanted_of : Answer → ℕ
wanted_of (Done n u) = 0
wanted_of (Repeated n) = 0
wanted_of (Inactive why) = 0
wanted_of (Refused r) = wanted_by r

-- with 0: how many units a Data Ack confirmed
abbrev pub confirmed_of : Answer → ℕ
confirmed_of (Done n u) = u
confirmed_of (Repeated n) = 0
confirmed_of (Inactive why) = 0
confirmed_of (Refused r) = 0

-- with 9: why the channel went inactive
abbrev pub reason_of : Answer → ℕ
reason_of (Done n u) = 0
reason_of (Repeated n) = 0
reason_of (Inactive why) = why
reason_of (Refused r) = 0

-- a packet that is not read is refused for the same reason
abbrev pub refusal_of : ReadError → Refusal
refusal_of read.Short = refusal.Short
refusal_of read.Damaged = refusal.Damaged
refusal_of read.Lacking = refusal.Lacking
refusal_of read.Strange = refusal.Strange
