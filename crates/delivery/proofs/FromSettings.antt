-- The premise on a node at the beginning is met by every table that settings made, whatever memory and lengths hold.
-- Assumes nothing.
use mathlib.Core.Path.{◌≡◌, refl, sym, ap, ap₂, ◌∙◌, subst}
use mathlib.Core.Bool.{true, false}
use mathlib.Core.List.{List, [], ◌∷◌}
use mathlib.Core.Logic.{⊎_elim}
use Prim.Native.Nat.{ℕ, zero, suc, ◌<◌}
use native.Mathlib.Nat.{not-suc-le-zero, le_of_suc-le-suc}
use lib.ListN.{length, get_or}
use Rattle.laws.proofs.Choice.{both, first_not}
use Rattle.laws.proofs.Numbers.{either_side}
use Rattle.walks.specs.Serving.{Changed}
use Rattle.channel.specs.declared.answer.Answer.{Answer}
use Rattle.channel.specs.declared.record.Node.{Node}
use Rattle.channel.specs.declared.record.Settings.{Settings}
use Rattle.channel.specs.declared.record.Channel.{Channel}
use Rattle.channel.specs.Settings.{clash}
use Rattle.channel.specs.Tables.{fit_table}
use Rattle.channel.proofs.TableLaws.{table_apart}
use Rattle.table.specs.Serving.{unset, record_at}
use Rattle.keeps.specs.Keeping.{Wide}
use Rattle.settings.specs.Configuring.{made_table, settled, configured}
use Rattle.settings.proofs.SeenLaws.{clash_swap}
use Rattle.settings.proofs.Promises.{settings_done, settings_lawful, settings_closed}
use Rattle.delivery.specs.Delivery.{rivals, Fresh}

made_wide : (s : List Settings) → Wide (made_table s)
made_wide [] i h = absurd (not-suc-le-zero h)
made_wide (x ∷ s) zero h = refl
made_wide (x ∷ s) (suc i) h = made_wide s i (le_of_suc-le-suc h)

-- no two of the settings clash
apart : (s : List Settings) → fit_table s ≡ true → (j i : ℕ) → j < length s → i < length s → (j ≡ i → ⊥)
    → clash (get_or s j unset).addresses (get_or s i unset).addresses ≡ false
apart s e j i a b other =
    ⊎_elim
    (λ q. table_apart s unset e j i q b)
    (λ q. clash_swap (get_or s j unset).addresses (get_or s i unset).addresses ∙ table_apart s unset e i j q a)
    (either_side j i other)

settled_fits : (t : List Channel) (mem lens lines : List ℕ) (s : List Settings) → settled t mem lens lines s ≡ true → fit_table s ≡ true
unfolding settled
settled_fits t mem lens lines s e = (both _ _ (both _ _ (both _ _ (both _ _ e).0).0).0).0

pub settings_fresh : (node : Node) (t : List Channel) (mem lens lines : List ℕ) (s : List Settings) → settled t mem lens lines s ≡ true
    → (i : ℕ) → i < length s
    → Fresh (record { node = node; table = (configured t mem lens lines s).table; mem = mem; lens = lens; lines = (configured t mem lens lines s).lines; index = i; start = 0 })
settings_fresh node t mem lens lines s e i h =
    let c = settings_closed t mem lens lines s e in
    let d : (configured t mem lens lines s).table ≡ made_table s = ap (λ (w : Changed Answer Channel). w.table) (settings_done t mem lens lines s e) in
    let own : (j : ℕ) → j < length s → (record_at (configured t mem lens lines s).table j).addresses ≡ (get_or s j unset).addresses
    = λ j less. (c.1 j less).addresses
    in
    record {
      stands = settings_lawful t mem lens lines s e;
      wide = subst Wide (sym d) (made_wide s);
      below = subst (λ (n : ℕ). i < n) (sym c.0) h;
      alone = λ j less other.
          let there : j < length s = subst (λ (n : ℕ). j < n) c.0 less in
          ap₂ rivals (own j there) (own i h) ∙ first_not (clash (get_or s j unset).addresses (get_or s i unset).addresses) _ (apart s (settled_fits t mem lens lines s e) j i there h other);
      state = (c.1 i h).state;
      empty = (c.1 i h).held;
      start = refl;
    }
