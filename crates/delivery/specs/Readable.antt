-- What a call writes for the link is a packet that a reader accepts: none that goes out is refused by the tests for 1, 2, 4 and 3 (document 02, A8).
use Rattle.std.specs.Prelude.{◌≡◌, List, [], ◌⊎◌, ℕ, take}
use Rattle.packet.specs.Reading.{read_of, read_number}
use Rattle.walks.specs.Serving.{Called}
use Rattle.channel.specs.declared.record.Channel.{Channel}
use Rattle.channel.specs.declared.answer.Answer.{Answer}
use Rattle.channel.specs.Answers.{number_of, length_of}

-- what the call wrote at the front of the lent buffer
abbrev pub wrote : Called Answer Channel → List ℕ
wrote g = take (length_of g.answer) g.out

-- a packet that is handed out is read
abbrev pub HandOutRead : Called Answer Channel → Type 0
HandOutRead g = number_of g.answer ≡ 0 → read_number (read_of (wrote g)) ≡ 0

-- and so is a reply, where one is written
abbrev pub ReplyRead : Called Answer Channel → Type 0
ReplyRead g = (wrote g ≡ []) ⊎ (read_number (read_of (wrote g)) ≡ 0)
