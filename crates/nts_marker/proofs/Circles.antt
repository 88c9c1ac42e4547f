-- A goal that is asked is one that its candidate may ask for.
use Rattle.std.proofs.Common.{List, [], inl, inr, refl, sym, subst, arith}
use Rattle.nts_model.specs.declared.labels.Sort.{Sort}
use Rattle.nts_model.specs.Terms.Trees.{Tree, IsClosed, any_label, is_canonical}
use Rattle.nts_model.specs.Derivations.Related.{unbound}
use Rattle.nts_model.proofs.Terms.Substituting.{closed_under_more}
use Rattle.nts_store.specs.Growth.{tree_at}
use Rattle.nts_terms.specs.declared.handles.Goal.{Goal}
use Rattle.nts_delegate.specs.Candidates.{IsAskedIn, IsNestedIn}
use Rattle.nts_delegate.specs.OwnTerms.{both_false, names_nothing}

pub nested_in_itself : (ts : List Tree) (fresh : List Sort) (g : Goal) → IsAskedIn ts g → IsNestedIn ts fresh g g
nested_in_itself ts fresh g h =
    let a = h.asked in
    let e = tree_at ts g.param_env.node in
    let p = tree_at ts g.predicate.node in
    let env = both_false (any_label is_canonical e) _ a.no_positions in
    let predicate = both_false (any_label is_canonical p) _ env.1 in
    let closed : IsClosed (unbound a.statement) = (tt, ((tt, tt), (closed_under_more 0 1 a.statement (omega arith) a.closed.1.0, tt))) in
    record {
      environment = refl;
      holds = h.holds;
      env = record { within = h.holds.env.within; names = names_nothing fresh e env.0; leaves = λ l o. inl (inl o); closed = a.closed.0; well_bound = a.well_bound.0 };
      predicate = record { within = h.holds.predicate.within; names = names_nothing fresh p predicate.0; leaves = λ l o. inl (inr (inl o)); closed = subst IsClosed (sym a.binds_nothing) closed; well_bound = a.well_bound.1.0 };
    }
