-- A store that grows keeps clauses.
use Rattle.std.specs.Prelude.{◌≡◌, List, [], ◌∷◌, map, Option, None, Some, slice_get}
use Rattle.std.proofs.Common.{arith, refl, ap, sym, subst}
use Rattle.nts_model.specs.Terms.Trees.{Tree, children}
use Rattle.nts_model.specs.declared.labels.Sort.{Sort}
use Rattle.nts_store.specs.declared.nodes.NodeId.{NodeId}
use Rattle.nts_terms.specs.declared.handles.Predicate.{Predicate}
use Rattle.nts_store.specs.Growth.{Extends}
use Rattle.nts_terms.specs.Handles.{Holds}
use Rattle.nts_model.specs.Terms.Trees.{Place}
use Rattle.nts_delegate.specs.Clauses.{IsClauseTerm, AreBodies, HoldsClause, AreClauses, clauses_in, clauses_of, head_of_clause, IsIndexed, HoldsNormClause, AreNormClauses, said_of, AreClausesReady}
use Rattle.nts_delegate.specs.Places.{IsIndexOf}
use Rattle.nts_delegate.specs.Relevant.{first_built_by}
use Rattle.nts_delegate.specs.declared.alias_table.NormClause.{NormClause}
use Rattle.nts_delegate.specs.declared.clauses.TraitClauses.{TraitClauses}
use Rattle.nts_delegate.specs.declared.clauses.Clause.{Clause}
use Rattle.nts_delegate.specs.declared.clauses.Clauses.{Clauses}

pub Holds-kept : {a b : List Tree} {p : Place} {t : NodeId} → Holds p a t → Extends a b → Holds p b t
Holds-kept {a} {b} {p} {t} h e =
    record { within = omega (arith, e.longer, h.within); fits = rw (e.kept t h.within) h.fits }

IsClauseTerm-kept : {a b : List Tree} {fresh : List Sort} {t : NodeId} → IsClauseTerm a fresh t → Extends a b → IsClauseTerm b fresh t
IsClauseTerm-kept {a} {b} {fresh} {t} h e =
    let same = e.kept t h.within in
    record {
      within = omega (arith, e.longer, h.within);
      names = rw same h.names;
      own = rw same h.own;
      closed = rw same h.closed;
      well_bound = rw same h.well_bound;
    }

AreBodies-kept : (a b : List Tree) (fresh : List Sort) (ps : List Predicate) → AreBodies a fresh ps → Extends a b → AreBodies b fresh ps
AreBodies-kept a b fresh [] h e = tt
AreBodies-kept a b fresh (p ∷ ps) h e =
    (Holds-kept h.0 e, IsClauseTerm-kept h.1 e, AreBodies-kept a b fresh ps h.2 e)

pub IsClause-kept : {a b : List Tree} {c : Clause} → HoldsClause a c → Extends a b → HoldsClause b c
IsClause-kept {a} {b} {c} h e =
    record {
      head_holds = Holds-kept h.head_holds e;
      head = IsClauseTerm-kept h.head e;
      body = AreBodies-kept a b c.fresh.items c.body.items h.body e;
    }

AreClauses-kept : (a b : List Tree) (cs : List Clause) → AreClauses a cs → Extends a b → AreClauses b cs
AreClauses-kept a b [] h e = tt
AreClauses-kept a b (c ∷ cs) h e = (IsClause-kept h.0 e, AreClauses-kept a b cs h.1 e)

heads_kept : (a b : List Tree) (cs : List Clause) → AreClauses a cs → Extends a b → map (head_of_clause b) cs ≡ map (head_of_clause a) cs
heads_kept a b [] h e = refl
heads_kept a b (c ∷ cs) h e =
    let head : head_of_clause b c ≡ head_of_clause a c = ap (λ t. first_built_by (children t)) (e.kept c.head.node h.0.head.within) in
    let rest = heads_kept a b cs h.1 e in
    cc (head, rest)

indexed_kept : (a b : List Tree) (o : Option TraitClauses) → AreClauses a (clauses_in o) → IsIndexed a o → Extends a b → IsIndexed b o
indexed_kept a b None r h e = tt
indexed_kept a b (Some t) r h e = subst (IsIndexOf t.heads) (sym (heads_kept a b t.clauses.items r e)) h

norm_clause_kept : {a b : List Tree} {c : NormClause} → HoldsNormClause a c → Extends a b → HoldsNormClause b c
norm_clause_kept {a} {b} {c} h e =
    record {
      head_holds = Holds-kept h.head_holds e;
      head = IsClauseTerm-kept h.head e;
      result_holds = Holds-kept h.result_holds e;
      result = IsClauseTerm-kept h.result e;
      body = AreBodies-kept a b c.fresh.items c.body.items h.body e;
    }

norm_clauses_kept : (a b : List Tree) (cs : List NormClause) → AreNormClauses a cs → Extends a b → AreNormClauses b cs
norm_clauses_kept a b [] h e = tt
norm_clauses_kept a b (c ∷ cs) h e = (norm_clause_kept h.0 e, norm_clauses_kept a b cs h.1 e)

pub AreClausesReady-kept : (a b : List Tree) (h : Clauses) → AreClausesReady a h → Extends a b → AreClausesReady b h
AreClausesReady-kept a b h r e =
    record {
      clauses = λ i. AreClauses-kept a b (clauses_of h i) (r.clauses i) e;
      indexed = λ i. indexed_kept a b (slice_get h.traits.items i) (r.clauses i) (r.indexed i) e;
      aliases = λ x. norm_clauses_kept a b (said_of h x).clauses (r.aliases x) e;
    }
