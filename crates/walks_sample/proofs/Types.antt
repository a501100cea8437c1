-- The plain types of the sample, as the walks take them: each as a `Kind`, each field that a walk reads as a `Has`, and the types of a call
-- together.
-- Assumes nothing.
use mathlib.Core.Path.{◌≡◌, refl}
use mir.Syntax.{w64}
use denote.Struct.Laws as LL
use Rattle.walks.specs.Serving.{leaves}
use Rattle.walks.proofs.Tab.{struct_elem, enum_elem}
use Rattle.walks.proofs.Plain.{Kind, Has, uint, truth}
use Rattle.walks.proofs.Served.{Served, Tested}
use Rattle.walks_lending.proofs.Held.{Held}
use Rattle.walks_lending.proofs.Door.{Door}
use Rattle.walks_sample.specs.Surveying.{blank}
use Rattle.walks_sample.specs.Serving.{served as does}
use Rattle.walks_sample.specs.Saying.{said as turned}
use Rattle.walks_sample.specs.contracts.plain.Channel as Channel
use Rattle.walks_sample.proofs.plain.Channel.TheLaws as Channel'
use Rattle.walks_sample.specs.contracts.plain.Settings as Settings
use Rattle.walks_sample.proofs.plain.Settings.TheLaws as Settings'
use Rattle.walks_sample.specs.contracts.plain.Request as Request
use Rattle.walks_sample.proofs.plain.Request.TheLaws as Request'
use Rattle.walks_sample.specs.contracts.plain.Told as Told
use Rattle.walks_sample.proofs.plain.Told.TheLaws as Told'
use Rattle.walks_sample.specs.contracts.plain.Said as Said
use Rattle.walks_sample.proofs.plain.Said.TheLaws as Said'
use Rattle.walks_sample.specs.contracts.plain.Survey as Survey
use Rattle.walks_sample.proofs.plain.Survey.TheLaws as Survey'
use Rattle.walks_sample.specs.contracts.plain.Decision as Decision
use Rattle.walks_sample.proofs.plain.Decision.TheLaws as Decision'
use Rattle.walks_sample.specs.contracts.plain.Placed as Placed
use Rattle.walks_sample.proofs.plain.Placed.TheLaws as Placed'
use Rattle.walks_sample.specs.contracts.plain.Verdict as Verdict
use Rattle.walks_sample.proofs.plain.Verdict.TheLaws as Verdict'
use Rattle.walks_sample.specs.contracts.plain.Round as Round
use Rattle.walks_sample.proofs.plain.Round.TheLaws as Round'
use Rattle.walks_sample.specs.contracts.plain.Swept as Swept
use Rattle.walks_sample.proofs.plain.Swept.TheLaws as Swept'
use Rattle.walks_sample.specs.contracts.plain.Kept as Kept
use Rattle.walks_sample.proofs.plain.Kept.TheLaws as Kept'

-- ---- each type

abbrev pub channel : Kind
channel = record { row = Channel.the_row; ty = Channel'.mir; elem = struct_elem Channel.the_type Channel'.the_laws Channel'.the_copy Channel'.the_plain }

abbrev pub settings : Kind
settings = record { row = Settings.the_row; ty = Settings'.mir; elem = struct_elem Settings.the_type Settings'.the_laws Settings'.the_copy Settings'.the_plain }

abbrev pub request : Kind
request = record { row = Request.the_row; ty = Request'.mir; elem = enum_elem Request.the_type Request'.the_laws Request'.the_copy Request'.the_plain tt }

abbrev pub told : Kind
told = record { row = Told.the_row; ty = Told'.mir; elem = struct_elem Told.the_type Told'.the_laws Told'.the_copy Told'.the_plain }

abbrev pub said : Kind
said = record { row = Said.the_row; ty = Said'.mir; elem = struct_elem Said.the_type Said'.the_laws Said'.the_copy Said'.the_plain }

abbrev pub carried : Kind
carried = record { row = Survey.the_row; ty = Survey'.mir; elem = struct_elem Survey.the_type Survey'.the_laws Survey'.the_copy Survey'.the_plain }

abbrev pub decision : Kind
decision = record { row = Decision.the_row; ty = Decision'.mir; elem = struct_elem Decision.the_type Decision'.the_laws Decision'.the_copy Decision'.the_plain }

abbrev pub outcome : Kind
outcome = record { row = Placed.the_row; ty = Placed'.mir; elem = struct_elem Placed.the_type Placed'.the_laws Placed'.the_copy Placed'.the_plain }

abbrev pub verdict : Kind
verdict = record { row = Verdict.the_row; ty = Verdict'.mir; elem = struct_elem Verdict.the_type Verdict'.the_laws Verdict'.the_copy Verdict'.the_plain }

abbrev pub round : Kind
round = record { row = Round.the_row; ty = Round'.mir; elem = struct_elem Round.the_type Round'.the_laws Round'.the_copy Round'.the_plain }

abbrev pub swept : Kind
swept = record { row = Swept.the_row; ty = Swept'.mir; elem = struct_elem Swept.the_type Swept'.the_laws Swept'.the_copy Swept'.the_plain }

abbrev pub kept : Kind
kept = record { row = Kept.the_row; ty = Kept'.mir; elem = struct_elem Kept.the_type Kept'.the_laws Kept'.the_copy Kept'.the_plain }

-- ---- each field that a walk reads

abbrev pub stored : Has outcome channel
stored = record { index = 0; part = λ s. s.channel; symbol = _; types = _; offset = _; vals = _; ty_is = refl; lies = refl; val_is = λ y. refl; get_is = λ y. refl; owed = λ y is. (LL.owed Placed.the_type Placed'.the_laws y _ is).0 }

abbrev pub answered : Has outcome told
answered = record { index = 1; part = λ s. s.told; symbol = _; types = _; offset = _; vals = _; ty_is = refl; lies = refl; val_is = λ y. refl; get_is = λ y. refl; owed = λ y is. (LL.owed Placed.the_type Placed'.the_laws y _ is).1.0 }

abbrev pub at : Has decision (uint w64)
at = record { index = 0; part = λ s. s.at; symbol = _; types = _; offset = _; vals = _; ty_is = refl; lies = refl; val_is = λ y. refl; get_is = λ y. refl; owed = λ y is. (LL.owed Decision.the_type Decision'.the_laws y _ is).0 }

abbrev pub unserved : Has decision told
unserved = record { index = 1; part = λ s. s.told; symbol = _; types = _; offset = _; vals = _; ty_is = refl; lies = refl; val_is = λ y. refl; get_is = λ y. refl; owed = λ y is. (LL.owed Decision.the_type Decision'.the_laws y _ is).1.0 }

abbrev pub holds : Has verdict truth
holds = record { index = 0; part = λ s. s.holds; symbol = _; types = _; offset = _; vals = _; ty_is = refl; lies = refl; val_is = λ y. refl; get_is = λ y. refl; owed = λ y is. (LL.owed Verdict.the_type Verdict'.the_laws y _ is).0 }

abbrev pub refusal : Has verdict told
refusal = record { index = 1; part = λ s. s.told; symbol = _; types = _; offset = _; vals = _; ty_is = refl; lies = refl; val_is = λ y. refl; get_is = λ y. refl; owed = λ y is. (LL.owed Verdict.the_type Verdict'.the_laws y _ is).1.0 }

abbrev pub stepped : Has swept channel
stepped = record { index = 0; part = λ s. s.channel; symbol = _; types = _; offset = _; vals = _; ty_is = refl; lies = refl; val_is = λ y. refl; get_is = λ y. refl; owed = λ y is. (LL.owed Swept.the_type Swept'.the_laws y _ is).0 }

abbrev pub summed : Has swept round
summed = record { index = 1; part = λ s. s.round; symbol = _; types = _; offset = _; vals = _; ty_is = refl; lies = refl; val_is = λ y. refl; get_is = λ y. refl; owed = λ y is. (LL.owed Swept.the_type Swept'.the_laws y _ is).1.0 }

-- ---- the types of a call together

abbrev pub served : Served
served = record { channel = channel; answer = told; outcome = outcome; stored = stored; said = answered; decision = decision; at = at; unserved = unserved; blank = blank; fits = tt }

abbrev pub tested : Tested
tested = record { channel = channel; answer = told; verdict = verdict; holds = holds; refusal = refusal }

abbrev pub held : Held
held = record {
  channel = channel;
  answer = told;
  count = 2;
  kept = kept;
  fits = tt;
  small = tt;
  said = λ r. r.told;
  table = λ r. r.table;
  holding = λ a ys. record { told = a; table = ys };
  holds = λ Q a ys h. h;
  val_is = λ a ys. refl;
  owes = λ a ys ia iys. LL.owes Kept.the_type Kept'.the_laws (record { told = a; table = ys }) (ia, (iys, tt));
}

abbrev pub door : Door
door = record { channel = channel; request = request; answer = told; result = said; turned = turned; says = λ ys m l li n x o r zs m' l' li' o'. leaves r zs m' l' li' o' ≡ does ys m l li n x o }
