-- Pairs that are to be made equal, taken one after another.
use Rattle.std.proofs.Common.{◌≡◌, ℕ, Bool, true, false, List, [], ◌∷◌, ◌++◌, sym, arith}
use Rattle.nts_model.specs.declared.labels.Variance.{Variance}
use Rattle.nts_model.specs.declared.labels.Variance.TheVariants as variance
use Rattle.nts_model.specs.Terms.Trees.{Tree}
use Rattle.nts_unify.specs.Entries.{Entries}
use Rattle.nts_unify.specs.Reading.{content_of}
use Rattle.nts_variance.specs.declared.along.Relating.{Relating}
use Rattle.nts_variance_model.specs.Variances.Leaving.{Refuses}
use Rattle.nts_variance.specs.Terms.{pair_at}
use Rattle.nts_variance.specs.Equating.{AreInvariant, ArePairsReady, IsOn, AreRefused, IsEqualStep, AreEquating, IsEqualRun}
use Rattle.nts_variance.proofs.Calls.{call_refuses}

pub invariant_front : (ps : List Relating) (q : Relating) → AreInvariant (ps ++ q ∷ []) → AreInvariant ps × (q.variance ≡ variance.Invariant)
invariant_front [] q h = (tt, h.0)
invariant_front (p ∷ ps) q h = (let r = invariant_front ps q h.1 in ((h.0, r.0), r.1))

module _ (declared : ℕ → List Variance) where
  on_trans : (ts us ws : List Tree) (e f g : Entries) (xs ys zs ms ns os gs hs is : List Relating) → IsOn declared ts us e f xs ys ms ns gs hs → IsOn declared us ws f g ys zs ns os hs is → IsOn declared ts ws e g xs zs ms os gs is
  on_trans ts us ws e f g xs ys zs ms ns os gs hs is a b =
      record { ready = b.ready; call = λ start first p es u. b.call start first p es (a.call start first p es u) }

  pub equating_start : (ts : List Tree) (e : Entries) (xs ms gs : List Relating) → ArePairsReady ts e xs → AreInvariant xs → AreEquating declared ts ts e e xs xs ms ms gs gs
  equating_start ts e xs ms gs ready invariant =
      record {
        on = record { ready = ready; call = λ start first p es u. u };
        invariant = invariant;
        not_more = omega arith;
      }

  pub equating_step : (ts us ws : List Tree) (e f g : Entries) (xs ps : List Relating) (q : Relating) (ys ms ns os gs hs is : List Relating) (bound : Bool) → AreEquating declared ts us e f xs (ps ++ q ∷ []) ms ns gs hs → IsEqualStep declared us ws f g ps q ys ns os hs is bound → bound ≡ false
      → AreEquating declared ts ws e g xs ys ms os gs is
  equating_step ts us ws e f g xs ps q ys ms ns os gs hs is bound a s no_value =
      let before = a.not_more in
      let after = (s.smaller no_value).1 in
      record {
        on = on_trans ts us ws e f g xs (ps ++ q ∷ []) ys ms ns os gs hs is a.on s.on;
        invariant = s.invariant (invariant_front ps q a.invariant).0;
        not_more = omega (arith, before, after);
      }

  pub equating_bound : (ts us ws : List Tree) (e f g : Entries) (xs ps : List Relating) (q : Relating) (ys ms ns os gs hs is : List Relating) (bound : Bool) → AreEquating declared ts us e f xs (ps ++ q ∷ []) ms ns gs hs → IsEqualStep declared us ws f g ps q ys ns os hs is bound → bound ≡ true
      → IsEqualRun declared ts ws e g xs ys ms os gs is true
  equating_bound ts us ws e f g xs ps q ys ms ns os gs hs is bound a s value =
      let before = a.not_more in
      let after = s.fewer (invariant_front ps q a.invariant).1 value in
      record {
        going = record {
          on = on_trans ts us ws e f g xs (ps ++ q ∷ []) ys ms ns os gs hs is a.on s.on;
          invariant = s.invariant (invariant_front ps q a.invariant).0;
          not_more = omega (arith, before, after);
        };
        fewer = λ z. omega (arith, before, after);
        ends = λ (z : true ≡ false). cc;
      }

  pub equating_end : (ts us : List Tree) (e f : Entries) (xs ys ms ns gs hs : List Relating) → AreEquating declared ts us e f xs ys ms ns gs hs → ys ≡ [] → IsEqualRun declared ts us e f xs ys ms ns gs hs false
  equating_end ts us e f xs ys ms ns gs hs a none = record { going = a; fewer = λ (z : false ≡ true). cc; ends = λ z. none }

  pub equating_run : (ts us ws : List Tree) (e f g : Entries) (xs ys zs ms ns os gs hs is : List Relating) (bound : Bool) → AreEquating declared ts us e f xs ys ms ns gs hs → IsEqualRun declared us ws f g ys zs ns os hs is bound → AreEquating declared ts ws e g xs zs ms os gs is
  equating_run ts us ws e f g xs ys zs ms ns os gs hs is bound a r =
      let before = a.not_more in
      let going = r.going in
      let after = going.not_more in
      record { on = on_trans ts us ws e f g xs ys zs ms ns os gs hs is a.on going.on; invariant = going.invariant; not_more = omega (arith, before, after) }

  pub equating_all : (ts us ws : List Tree) (e f g : Entries) (xs ys zs ms ns os gs hs is : List Relating) (bound : Bool) → AreEquating declared ts us e f xs ys ms ns gs hs → IsEqualRun declared us ws f g ys zs ns os hs is bound → bound ≡ false → IsOn declared ts ws e g xs [] ms os gs is
  equating_all ts us ws e f g xs ys zs ms ns os gs hs is bound a r no_value =
      let whole = equating_run ts us ws e f g xs ys zs ms ns os gs hs is bound a r in
      rw (sym (r.ends no_value)) whole.on

  -- refusals
  pub refused_pair : (ts us : List Tree) (e f : Entries) (xs ps : List Relating) (q : Relating) (ms ns gs hs : List Relating) → AreEquating declared ts us e f xs (ps ++ q ∷ []) ms ns gs hs → Refuses declared (content_of us f) (pair_at us q ∷ []) → AreRefused declared ts e xs ms gs
  refused_pair ts us e f xs ps q ms ns gs hs a r =
      record { none = λ start first p es u. call_refuses declared start us first f p q ps ns es hs (a.on.call start first p es u) r }

  pub refused_run : (ts us : List Tree) (e f : Entries) (xs ys ms ns gs hs : List Relating) → AreEquating declared ts us e f xs ys ms ns gs hs → AreRefused declared us f ys ns hs → AreRefused declared ts e xs ms gs
  refused_run ts us e f xs ys ms ns gs hs a r = record { none = λ start first p es u. r.none start first p es (a.on.call start first p es u) }
