-- How the survey of a table goes, record by record. What it amounts to is `serve_one` (Serving.antt): a reader need not look here.
use Rattle.std.specs.Prelude.{◌≡◌, ℕ, ◌+◌, ◌≤◌, ◌<◌, Bool, true, false, not, ◌&&◌, List, ltb, leb, eqb, length, if◌then◌else◌}
use Rattle.slots.specs.Slots.{Sized, laid}
use Rattle.walks.specs.Fold.{fold_from}
use Rattle.lines.specs.Lines.{no_lines}
use Rattle.lines.specs.Fit.{fit_lines, Fit}
use Rattle.walks.specs.Serving.{Roles, Worked, Performed, works, performs}
use Rattle.channel.specs.declared.record.Channel.{Channel}
use Rattle.channel.specs.declared.answer.Answer.TheVariants.{Refused}
use Rattle.channel.specs.declared.answer.Refusal.{Refusal}
use Rattle.channel.specs.declared.answer.Refusal.TheVariants as refusal
use Rattle.channel.specs.declared.step.Stepped.{Stepped}
use Rattle.channel.specs.Standing.{standing, Standing}
use Rattle.table.specs.declared.looking.Look.{Look}
use Rattle.table.specs.declared.surveying.Spot.{Spot}
use Rattle.table.specs.declared.surveying.Survey.{Survey}
use Rattle.table.specs.declared.deciding.Told.{Told}
use Rattle.table.specs.declared.deciding.Placed.{Placed}
use Rattle.table.specs.declared.deciding.Decision.{Decision}
use Rattle.table.specs.declared.deciding.Verdict.{Verdict}
use Rattle.table.specs.Waiting.{rank_in, moved}
use Rattle.table.specs.Looking.{graded, missing}
use Rattle.table.specs.Lent.{area_of, part_of}
use Rattle.table.specs.Serving.{Step, blank, told_of}

-- ---- record by record

abbrev pub started : Look → List ℕ → Bool → Survey
started look lines sound =
    record { look = look; lines = lines; sound = sound; slots = 0; octets = 0; spot = record { at = 0; slot = 0; octet = 0; grade = 48 } }

-- lines that are none make it unsound at once, and are not kept
abbrev pub begun : Look → List ℕ → Survey
begun look lines = started look (if fit_lines 16 lines then lines else no_lines) (fit_lines 16 lines)

abbrev pub unsound : Survey → Survey
unsound v = record { look = v.look; lines = v.lines; sound = false; slots = v.slots; octets = v.octets; spot = v.spot }

abbrev pub better : Spot → Spot → Spot
better old new = if ltb new.grade old.grade then new else old

abbrev pub spot_here : Survey → Channel → ℕ → Spot
spot_here v c j = record { at = j; slot = v.slots; octet = v.octets; grade = graded v.look v.lines j c }

abbrev pub noted : Survey → Channel → ℕ → Survey
noted v c j =
    record {
      look = v.look;
      lines = v.lines;
      sound = true;
      slots = v.slots + c.limits.slots;
      octets = v.octets + area_of c.limits;
      spot = better v.spot (spot_here v c j);
    }

unfoldable pub survey_one : Survey → Channel → List ℕ → ℕ → Survey
survey_one v c lens j =
    if not v.sound then v
    else if leb 16 j then unsound v
    else if ltb 4096 v.slots then unsound v
    else if ltb 2097152 v.octets then unsound v
    else if not (standing c (part_of v.slots c.limits.slots lens)) then unsound v
    else noted v c j

-- of n records, or of n settings: one more than there may be shows that there are too many, so no more are looked at
abbrev pub looked_at : ℕ → ℕ
looked_at n = if ltb 16 n then 17 else n

abbrev pub surveyed : List Channel → List ℕ → Survey → Survey
surveyed t lens v = fold_from survey_one lens 0 v t

-- ---- what it decides, of a table of n records with m octets and l lengths

unfoldable pub is_sound : Survey → ℕ → ℕ → ℕ → Bool
is_sound v n m l = leb 1 n && v.sound && eqb v.slots l && eqb v.octets m && fit_lines n v.lines

abbrev pub refused_by : Survey → ℕ → Refusal → Decision
refused_by v n why = record { at = n; told = told_of n (Refused why); look = v.look; spot = v.spot }

abbrev pub served_by : Survey → Decision
served_by v = record { at = v.spot.at; told = told_of v.spot.at (Refused refusal.NoChannel); look = v.look; spot = v.spot }

unfoldable pub decided : Survey → ℕ → ℕ → ℕ → Decision
decided v n m l =
    if not (is_sound v n m l) then refused_by v n refusal.Settings
    else if ltb v.spot.grade 48 then served_by v
    else refused_by v n (missing v.look.sought)

abbrev pub judged : Survey → ℕ → ℕ → ℕ → Verdict
judged v n m l = record { ok = is_sound v n m l; told = told_of n (Refused refusal.Settings) }

-- of a decision and of what a step makes, the parts that a call reads
abbrev pub told_roles : Roles Channel Told Placed Decision
told_roles = record { at = λ d. d.at; unserved = λ d. d.told; stored = λ s. s.channel; said = λ s. s.told; blank = blank }

-- what the step of a call leaves: the channel as it is stored, the answer with its index, and the lines
abbrev pub placed : Decision → List ℕ → Worked Stepped → Performed Placed
placed d lines w =
    performs
    (record { channel = w.made.channel; told = told_of d.told.index w.made.answer })
    w.mem
    w.lens
    (moved d.look.sought (rank_in d.spot.grade) d.spot.at w.made lines)
    w.out

-- ---- the step of the channel that is served, over the whole of the lent slices

abbrev pub mine : Channel → Decision → List ℕ → List ℕ
mine c d mem = part_of d.spot.octet (area_of c.limits) mem

abbrev pub mine_lens : Channel → Decision → List ℕ → List ℕ
mine_lens c d lens = part_of d.spot.slot c.limits.slots lens

abbrev pub wholly : Decision → List ℕ → List ℕ → Worked Stepped → Worked Stepped
wholly d mem lens w = works w.made (laid mem d.spot.octet w.mem) (laid lens d.spot.slot w.lens) w.out

abbrev pub stepping : Step → Channel → Decision → List ℕ → List ℕ → List ℕ → Worked Stepped
stepping step c d mem lens out = wholly d mem lens (step c (rank_in d.spot.grade) (mine c d mem) (mine_lens c d lens) out)

-- what such a step asks of its caller: the record stands with its own lengths, its parts lie within what is lent, and it suits, by
-- some lines
pub record Served (c : Channel) (d : Decision) (mem lens : List ℕ) : Type 0 where
  pub standing : Standing c (mine_lens c d lens)
  pub sized : Sized c.limits.slots c.limits.payload (mine c d mem) (mine_lens c d lens)
  pub slots : d.spot.slot + c.limits.slots ≤ length lens
  pub octets : d.spot.octet + area_of c.limits ≤ length mem
  pub lines : List ℕ
  pub suits : d.spot.grade ≡ graded d.look lines d.spot.at c
  pub found : d.spot.grade < 48

-- and what moving that channel in the lines asks
pub record Lined (d : Decision) (lines : List ℕ) : Type 0 where
  pub fit : Fit 16 lines
  pub at : d.spot.at < 16
