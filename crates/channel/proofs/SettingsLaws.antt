-- What fit settings have shown.
-- Assumes nothing.
use Rattle.std.proofs.Common.{◌≡◌, ◌≤◌, Bool, true, false, ◌&&◌, ◌||◌, eqb, leb, sym, ap, ◌∙◌, le_trans, ne_eqb, eqb-true, leb-true}
use Rattle.laws.proofs.Choice.{both}
use Rattle.channel.specs.declared.record.Addresses.{Addresses}
use Rattle.channel.specs.declared.record.Limits.{Limits}
use Rattle.channel.specs.Settings.{fit_window, fit_units, fit_timers, fit_route, fit_limits, fit_addresses, Fit}
use Rattle.channel.specs.Prefixes.{fit_prefix}

second : (a b : Bool) → a ≡ false → (a || b) ≡ true → b ≡ true
second a b e q = sym (ap (λ (a : Bool). a || b) e) ∙ q

pub fit_is : (l : Limits) → fit_limits l ≡ true → Fit l
unfolding fit_limits fit_window fit_units fit_timers fit_route
fit_is l e =
    let g = both _ _ e in
    let r = both _ _ g.1 in
    let r2 = both _ _ r.0 in
    let f = both _ _ g.0 in
    let p = both _ _ f.0 in
    let q = both _ _ p.0 in
    let w = both _ _ q.0 in
    let w2 = both _ _ w.0 in
    let w3 = both _ _ w2.0 in
    let u = both _ _ q.1 in
    let u2 = both _ _ u.0 in
    let u3 = both _ _ u2.0 in
    let t = both _ _ p.1 in
    let t2 = both _ _ t.0 in
    record {
      some = leb-true _ _ w3.0;
      window = le_trans (leb-true l.window l.slots w2.1) (leb-true l.slots 128 w.1);
      slots = leb-true _ _ w2.1;
      most = leb-true _ _ w.1;
      octet = leb-true _ _ u3.0;
      payload = leb-true _ _ u3.1;
      segment = leb-true _ _ u2.1;
      segments = leb-true _ _ u.1;
      timeout = leb-true _ _ t2.0;
      closing = leb-true _ _ t2.1;
      retries = leb-true _ _ t.1;
      flow = leb-true _ _ f.1;
      spare = leb-true _ _ r2.0;
      lead = leb-true _ _ r2.1;
      led = λ some. eqb-true _ _ (second (eqb l.spare 0) (eqb l.lead 1) (ne_eqb l.spare 0 some) r.1);
    }

-- ---- addresses that are fit: the direction has a meaning, and so have both prefixes

module _ (a : Addresses) (e : fit_addresses a ≡ true) where
  pub directed : a.direction ≤ 1
  unfolding fit_addresses
  directed = leb-true _ _ (both _ _ (both _ _ e).0).0

  pub own_fit : fit_prefix a.own ≡ true
  unfolding fit_addresses
  own_fit = (both (leb a.direction 1 && fit_prefix a.prefix) (fit_prefix a.own) e).1
