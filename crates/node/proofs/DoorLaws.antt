-- What the survey and the decision of a call amount to, for a decision that is the one of these: the step may be called, and the call is what it says.
-- Assumes nothing.
use mathlib.Core.Path.{◌≡◌, sym, ap, ◌∙◌, subst}
use mathlib.Core.Bool.{true}
use mathlib.Core.List.{List}
use Prim.Native.Nat.{ℕ, ◌≤◌, ◌<◌}
use borrow.Author.Tests.{lt-ltb, le-ltb}
use lib.ListN.{length, get_or, set}
use Rattle.std.proofs.lemmas.List.{get_or_default}
use Rattle.walks.specs.Serving.{Called, performs, leaves, served_by, saying}
use Rattle.channel.specs.declared.record.Channel.{Channel}
use Rattle.table.specs.declared.looking.Look.{Look}
use Rattle.table.specs.declared.surveying.Survey.{Survey}
use Rattle.table.specs.declared.deciding.Decision.{Decision}
use Rattle.table.specs.declared.deciding.Placed.{Placed}
use Rattle.table.specs.declared.deciding.Told.{Told}
use Rattle.table.specs.Serving.{Step, blank, serve_one, index_served, told_of}
use Rattle.table.specs.Surveying.{begun, surveyed, decided, told_roles, placed, stepping, Served, Lined}
use Rattle.table.proofs.ServeLaws.{decision_of, may_serve, look_stays, agreed_told}

-- the decision that is made of a survey
pub decided_is : (look : Look) (t : List Channel) (mem lens lines : List ℕ) (l : Look) (a v : Survey) (d : Decision)
    → l ≡ look
    → a ≡ begun l lines
    → v ≡ surveyed t lens a
    → d ≡ decided v (length t) (length mem) (length lens)
    → d ≡ decision_of look t mem lens lines
decided_is look t mem lens lines l a v d el ea ev ed =
    ed
    ∙ ap (λ (w : Survey). decided w (length t) (length mem) (length lens)) (ev ∙ ap (surveyed t lens) (ea ∙ ap (λ (k : Look). begun k lines) el))

module _ (look : Look) (t : List Channel) (mem lens lines : List ℕ) (any : Channel) where
  -- what the step asks
  Asks : Decision → Type 0
  Asks d = d.at < length t → Served (get_or t d.at any) d mem lens × (d.look ≡ look) × Lined d lines

  asked : Asks (decision_of look t mem lens lines)
  unfolding Asks
  asked h =
      let d = decision_of look t mem lens lines in
      let g = may_serve look t mem lens lines h in
      (subst (λ (c : Channel). Served c d mem lens) (get_or_default t d.at blank any h) g.0, look_stays look t mem lens lines h, g.1)

  pub step_asked : (d : Decision) → d ≡ decision_of look t mem lens lines → d.at < length t → Served (get_or t d.at any) d mem lens × (d.look ≡ look) × Lined d lines
  unfolding Asks
  step_asked d e = subst Asks (sym e) asked

  module _ (step : Step) (out : List ℕ) where
    -- the whole call
    abbrev Whole : Called Told Channel
    Whole = saying (told_of (index_served look t mem lens lines)) (serve_one look step t mem lens lines out)

    -- with the record stored that a step made
    Stores : Decision → Type 0
    Stores d = d.at < length t
        → (s : Placed) (m l li o : List ℕ)
        → performs s m l li o ≡ placed d lines (stepping step (get_or t d.at any) d mem lens out)
        → leaves s.told (set t d.at s.channel) m l li o ≡ Whole

    stores : Stores (decision_of look t mem lens lines)
    unfolding Stores served_by
    stores h s m l li o e =
        let d = decision_of look t mem lens lines in
        ap (served_by told_roles true d t mem lens lines out) (e ∙ ap (λ (c : Channel). placed d lines (stepping step c d mem lens out)) (get_or_default t d.at any blank h))
        ∙ sym (ap (λ b. served_by told_roles b d t mem lens lines out (placed d lines (stepping step (get_or t d.at blank) d mem lens out))) (lt-ltb d.at (length t) h))
        ∙ agreed_told look t mem lens lines step out

    pub step_stored : (d : Decision) → d ≡ decision_of look t mem lens lines
        → d.at < length t
        → (s : Placed) (m l li o : List ℕ)
        → performs s m l li o ≡ placed d lines (stepping step (get_or t d.at any) d mem lens out)
        → leaves s.told (set t d.at s.channel) m l li o ≡ Whole
    unfolding Stores
    step_stored d e = subst Stores (sym e) stores

    -- and where no record is served
    Stays : Decision → Type 0
    Stays d = length t ≤ d.at → leaves d.told t mem lens lines out ≡ Whole

    stays : Stays (decision_of look t mem lens lines)
    unfolding Stays served_by
    stays h =
        let d = decision_of look t mem lens lines in
        sym (ap (λ b. served_by told_roles b d t mem lens lines out (placed d lines (stepping step (get_or t d.at blank) d mem lens out))) (le-ltb d.at (length t) h))
        ∙ agreed_told look t mem lens lines step out

    pub none_served : (d : Decision) → d ≡ decision_of look t mem lens lines → length t ≤ d.at → leaves d.told t mem lens lines out ≡ Whole
    unfolding Stays
    none_served d e = subst Stays (sym e) stays
