-- The answers of a packet alone, as C sees them: the number, and the values or zeros.
use Rattle.std.specs.Prelude.{ℕ, Result, Ok, Err}
use Rattle.packet.specs.declared.fields.Fields.{Fields}
use Rattle.packet.specs.declared.reading.Found.{Found}
use Rattle.packet.specs.declared.reading.ReadError.{ReadError}
use Rattle.packet.specs.declared.writing.WriteError.{WriteError}
use Rattle.packet.specs.declared.writing.WriteError.TheVariants as written
use Rattle.packet.specs.Reading.{read_number}
use Rattle.packet.specs.Writing.{written_number}
use Rattle.host.specs.declared.packets.Reading.{Reading}
use Rattle.host.specs.declared.packets.Writing.{Writing}

-- no fields
abbrev pub blank : Fields
blank =
    record {
      destination = 0;
      protocol = 0;
      version = 0;
      secondary = 0;
      flags = 0;
      kind = 0;
      channel = 0;
      number = 0;
      reserved = 0;
      source = 0;
    }

abbrev pub refusal : ℕ → Reading
refusal n = record { answer = n; fields = blank; prefix = 0; start = 0; length = 0 }

abbrev pub reading_of : Result Found ReadError → Reading
reading_of (Ok r) = record { answer = read_number (Ok r); fields = r.fields; prefix = r.prefix; start = r.start; length = r.length }
reading_of (Err why) = refusal (read_number (Err why))

abbrev pub writing_of : Result ℕ WriteError → Writing
writing_of (Ok n) = record { answer = written_number (Ok n); length = n }
writing_of (Err written.Lacking) = record { answer = written_number (Err written.Lacking); length = 0 }
writing_of (Err written.Strange) = record { answer = written_number (Err written.Strange); length = 0 }
writing_of (Err (written.Small n)) = record { answer = written_number (Err (written.Small n)); length = n }
