-- The clauses of an environment keep the laws of handlers.
use Rattle.std.proofs.Common.{arith, ◌≡◌, ◌⊎◌, inl, inr, ℕ, ◌+◌, ◌==◌, if◌then◌else◌, Bool, true, false, List, [], ◌∷◌, map, Some, None, refl, sym, ap, subst, ◌∙◌, eqb-true}
use Rattle.std.proofs.lemmas.List.{map-append}
use Rattle.nts_model.specs.declared.labels.Leaf.{Leaf}
use Rattle.nts_model.specs.declared.labels.BoundVarIndexKind.TheVariants as index
use Rattle.nts_model.specs.declared.labels.ClauseHead.TheVariants as clause
use Rattle.nts_model.specs.declared.labels.ListHead.TheVariants as list
use Rattle.nts_model.specs.declared.labels.Label.{Label}
use Rattle.nts_model.specs.declared.labels.Label.TheVariants as label
use Rattle.nts_model.specs.Terms.Trees.{Tree, empty, more, node, binders, label_of, row_length, IsRow, IsInRow, any_label, is_canonical, kind_of, AllFit, is, one_sort, sort_list, bound_predicate, statement, HavePlaces, IsFormed, IsBoundBelow, IsClosedUnder}
use Rattle.nts_model.specs.Derivations.Related.{pair, arguments}
use Rattle.nts_model.specs.Lists.{Among}
use Rattle.nts_model.specs.Terms.Substitutions.{leaf_tree, replace, Instance, instance_of, Renaming, rename}
use Rattle.nts_model.specs.Derivations.Rules.{Application}
use Rattle.nts_model.specs.Derivations.Handlers.{Candidate, equation_by, AreValuesOf, use_of, IsInstanceFor, application_under, renamed_candidate, IsAsked, CandidatesCommute, InstancesAreRules}
use Rattle.nts_model.specs.Terms.Substitutions.{filled_under}
use Rattle.nts_delegate.specs.Offers.{trait_of}
use Rattle.nts_delegate.specs.ClauseHandlers.{equations_of, trait_goal}
use Rattle.nts_delegate.specs.OwnTerms.{both_false, IsRow-replace, row_length-replace, filled_nowhere}
use Rattle.nts_delegate.specs.Both.{parted}
use Rattle.nts_delegate.specs.HandlerLaws.{IsTraitGoal, IsOtherGoal, one_list, trait_or_other, asked_of, values_under}
use Rattle.nts_assembly.specs.Assumptions.{rows_of, sorts_in, positioned, valued, assumed_offer, offer_where, fits_trait, offer_if, offers_over, assumed_offers, assumed_clause, IsAssumed, assuming}
use Rattle.nts_assembly.specs.Positioned.{AreClosedBelow, filled_positioned, replaced_valued, StayPositioned, moved_positioned}

pub positioned_row : (c : ℕ) (t : Tree) → IsRow t → IsRow (positioned c t)
positioned_row c empty h = tt
positioned_row c (more a b) h = positioned_row c b h
positioned_row c (node l t) h = absurd h

pub valued_row : (vs : List Tree) (c : ℕ) (t : Tree) → IsRow t → IsRow (valued vs c t)
valued_row vs c empty h = tt
valued_row vs c (more a b) h = valued_row vs c b h
valued_row vs c (node l t) h = absurd h

pub in_row-replace : (f : Leaf → Tree) (t r : Tree) → IsInRow t r → IsInRow (replace f t) (replace f r)
in_row-replace f t empty h = absurd h
in_row-replace f t (more u us) (inl e) = inl (ap (replace f) e)
in_row-replace f t (more u us) (inr h) = inr (in_row-replace f t us h)
in_row-replace f t (node l c) h = absurd h

pub equations-replace : (f : Leaf → Tree) (us hs : Tree) → IsRow us → IsRow hs → map (equation_by (replace f)) (equations_of us hs) ≡ equations_of (replace f us) (replace f hs)
equations-replace f empty hs r s = refl
equations-replace f (more a us) empty r s = refl
equations-replace f (more a us) (more b hs) r s = let x = equations-replace f us hs r s in cc
equations-replace f (more a us) (node l c) r s = absurd s
equations-replace f (node l c) hs r s = absurd r

pub equations-filled : (f : Leaf → Tree) (vs : List Tree) (us hs : Tree) → IsRow us → IsRow hs → map (equation_by (filled_under f vs)) (equations_of us hs) ≡ equations_of (filled_under f vs us) (filled_under f vs hs)
equations-filled f vs empty hs r s = refl
equations-filled f vs (more a us) empty r s = refl
equations-filled f vs (more a us) (more b hs) r s = let x = equations-filled f vs us hs r s in cc
equations-filled f vs (more a us) (node l c) r s = absurd s
equations-filled f vs (node l c) hs r s = absurd r

-- the sorts that a binder lists
sort_replace : (f : Leaf → Tree) (a : Tree) → kind_of a ≡ Some one_sort → label_of (replace f a) ≡ label_of a
sort_replace f (node (label.List (list.Sort s)) c) h = refl
sort_replace f a h = cc

pub sorts-replace : (f : Leaf → Tree) (ss : Tree) → AllFit (is one_sort) ss → sorts_in (replace f ss) ≡ sorts_in ss
sorts-replace f empty h = refl
sorts-replace f (more a b) h = let x = sort_replace f a h.0 in let y = sorts-replace f b h.1 in cc (x, y)
sorts-replace f (node l c) h = absurd h

kind_replace : (f : Leaf → Tree) (a : Tree) → kind_of a ≡ Some one_sort → kind_of (replace f a) ≡ Some one_sort
kind_replace f (node (label.List (list.Sort s)) c) h = refl
kind_replace f a h = cc

pub listed-replace : (f : Leaf → Tree) (ss : Tree) → AllFit (is one_sort) ss → AllFit (is one_sort) (replace f ss)
listed-replace f empty h = tt
listed-replace f (more a b) h = (kind_replace f a h.0, listed-replace f b h.1)
listed-replace f (node l c) h = absurd h

-- a predicate of an environment is a trait's clause, or none
pub record IsTraitRow (p : Tree) : Type 0 where
  pub sorts : Tree
  pub listed : AllFit (is one_sort) sorts
  pub of_trait : ℕ
  pub head : Tree
  pub row : IsRow head
  pub is : p ≡ assumed_clause sorts of_trait head

pub record IsOtherRow (p : Tree) : Type 0 where
  pub none : trait_of p ≡ None
  pub none_under : (f : Leaf → Tree) → trait_of (replace f p) ≡ None

pub record IsSortList (a : Tree) : Type 0 where
  pub sorts : Tree
  pub listed : AllFit (is one_sort) sorts
  pub is : a ≡ node (label.List list.Sorts) sorts

pub sort_list_shape : (a : Tree) → kind_of a ≡ Some sort_list → IsFormed a → IsSortList a
sort_list_shape (node (label.List list.Sorts) ss) h f = record { sorts = ss; listed = f.0; is = refl }
sort_list_shape a h f = cc

-- what a statement says
statement_shape : (v s : Tree) → IsSortList v → kind_of s ≡ Some statement → IsFormed s → IsTraitRow (node (label.List list.Binder) (pair v s)) ⊎ IsOtherRow (node (label.List list.Binder) (pair v s))
statement_shape v (node (label.Clause (clause.Trait i)) ts) l k f =
    let a = one_list ts f.0 f.1 in
    inl (record { sorts = l.sorts; listed = l.listed; of_trait = i; head = a.with_arguments; row = a.row; is = cc (l.is, a.is) })
statement_shape v (node (label.Clause h) ts) l k f = inr (record { none = refl; none_under = λ g. refl })
statement_shape v (node (label.Predicate h) ts) l k f = inr (record { none = refl; none_under = λ g. refl })
statement_shape v (node (label.List list.Args) ts) l k f = cc
statement_shape v (node (label.List list.Env) ts) l k f = cc
statement_shape v (node (label.List list.Sorts) ts) l k f = cc
statement_shape v (node (label.List (list.Sort x)) ts) l k f = cc
statement_shape v (node (label.List list.Binder) ts) l k f = cc
statement_shape v s l k f = cc

two_shape : (c : Tree) → HavePlaces (is sort_list ∷ is statement ∷ []) c → IsFormed c → IsTraitRow (node (label.List list.Binder) c) ⊎ IsOtherRow (node (label.List list.Binder) c)
two_shape (more v (more s empty)) h f = statement_shape v s (sort_list_shape v h.0 f.0) h.1.0 f.1.0
two_shape (more v (more s (more t u))) h f = absurd h.1.1
two_shape (more v (more s (node l t))) h f = absurd h.1.1
two_shape (more v empty) h f = absurd h.1
two_shape (more v (node l t)) h f = absurd h.1
two_shape empty h f = absurd h
two_shape (node l t) h f = absurd h

pub clause_shape : (p : Tree) → kind_of p ≡ Some bound_predicate → IsFormed p → IsTraitRow p ⊎ IsOtherRow p
clause_shape (node (label.List list.Binder) c) k f = two_shape c f.0 f.1
clause_shape p k f = cc

-- candidates commute with plain renaming
stay_positioned : (ρ : Renaming) → StayPositioned (λ l. leaf_tree (ρ.to l))
stay_positioned ρ c l = refl

pub renamed_where : (ρ : Renaming) (w : Bool) (c d : Candidate) → c ≡ renamed_candidate ρ d → offer_where w c ≡ map (renamed_candidate ρ) (offer_where w d)
renamed_where ρ true c d e = cc
renamed_where ρ false c d e = refl

fits_replaced : (f : Leaf → Tree) (i j : ℕ) (us hs : Tree) → IsRow us → IsRow hs → fits_trait i (replace f us) (j, node (label.List list.Args) (replace f hs)) ≡ fits_trait i us (j, node (label.List list.Args) hs)
fits_replaced f i j us hs r s =
    let x = row_length-replace f us r in
    let y = row_length-replace f hs s in
    cc (x, y)

pub offer_renamed : (ρ : Renaming) (us ss hs : Tree) → IsRow us → AllFit (is one_sort) ss → IsRow hs → assumed_offer (rename ρ us) (sorts_in (rename ρ ss)) (rename ρ hs) ≡ renamed_candidate ρ (assumed_offer us (sorts_in ss) hs)
offer_renamed ρ us ss hs r l s =
    let f = λ (x : Leaf). leaf_tree (ρ.to x) in
    let sorts = sorts-replace f ss l in
    let equations : equations_of (rename ρ us) (positioned 0 (rename ρ hs)) ≡ map (equation_by (rename ρ)) (equations_of us (positioned 0 hs)) =
    ap (equations_of (rename ρ us)) (sym (moved_positioned f (stay_positioned ρ) 0 hs)) ∙ sym (equations-replace f us (positioned 0 hs) r (positioned_row 0 hs s)) in
    cc (sorts, equations)

one_renamed : (ρ : Renaming) (i : ℕ) (us p : Tree) → IsRow us → IsTraitRow p ⊎ IsOtherRow p → offer_if i (rename ρ us) (rename ρ p) (trait_of (rename ρ p)) ≡ map (renamed_candidate ρ) (offer_if i us p (trait_of p))
one_renamed ρ i us p r (inl a) =
    let f = λ (x : Leaf). leaf_tree (ρ.to x) in
    rw a.is (ap (λ w. offer_where w (assumed_offer (rename ρ us) (sorts_in (rename ρ a.sorts)) (rename ρ a.head))) (fits_replaced f i a.of_trait us a.head r a.row)
    ∙ renamed_where ρ (fits_trait i us (a.of_trait, node (label.List list.Args) a.head)) (assumed_offer (rename ρ us) (sorts_in (rename ρ a.sorts)) (rename ρ a.head)) (assumed_offer us (sorts_in a.sorts) a.head) (offer_renamed ρ us a.sorts a.head r a.listed a.row))
one_renamed ρ i us p r (inr n) =
    ap (offer_if i (rename ρ us) (rename ρ p)) (n.none_under (λ l. leaf_tree (ρ.to l))) ∙ sym (ap (λ o. map (renamed_candidate ρ) (offer_if i us p o)) n.none)

over_renamed : (ρ : Renaming) (i : ℕ) (us ps : Tree) → IsRow us → AllFit (is bound_predicate) ps → IsFormed ps → offers_over i (rename ρ us) (rename ρ ps) ≡ map (renamed_candidate ρ) (offers_over i us ps)
over_renamed ρ i us empty r h f = refl
over_renamed ρ i us (more p ps) r h f =
    let one = one_renamed ρ i us p r (clause_shape p h.0 f.0) in
    let rest = over_renamed ρ i us ps r h.1 f.1 in
    cc (one, rest) ∙ sym (map-append (renamed_candidate ρ) (offer_if i us p (trait_of p)) (offers_over i us ps))
over_renamed ρ i us (node l c) r h f = absurd h

env_renamed : (ρ : Renaming) (i : ℕ) (us e : Tree) → IsRow us → IsFormed e → offers_over i (rename ρ us) (rows_of (rename ρ e)) ≡ map (renamed_candidate ρ) (offers_over i us (rows_of e))
env_renamed ρ i us (node (label.List list.Env) ps) r f = over_renamed ρ i us ps r f.0 f.1
env_renamed ρ i us e r f = refl

pub closed_below : (ι : Instance) → AreClosedBelow ι.value
closed_below ι c l =
    let same : 0 + c ≡ c = omega arith in
    subst (λ n. IsClosedUnder n (ι.value l)) same (IsClosedUnder-more 0 c (ι.value l) (ι.closed l))
  where
    below : (n m : ℕ) (l : Label) → IsBoundBelow n l → IsBoundBelow (n + m) l
    below n m (label.Bound s (index.Bound d) k) h = omega (arith, h)
    below n m (label.Bound s index.Canonical k) h = tt
    below n m (label.Leaf x) h = tt
    below n m (label.Ty x) h = tt
    below n m (label.Const x) h = tt
    below n m (label.Clause x) h = tt
    below n m (label.Predicate x) h = tt
    below n m (label.List x) h = tt

    IsClosedUnder-more : (n m : ℕ) (t : Tree) → IsClosedUnder n t → IsClosedUnder (n + m) t
    IsClosedUnder-more n m empty h = tt
    IsClosedUnder-more n m (more a b) h = (IsClosedUnder-more n m a h.0, IsClosedUnder-more n m b h.1)
    IsClosedUnder-more n m (node l t) h =
        let deeper : (n + binders l) + m ≡ (n + m) + binders l = omega arith in
        (below n m l h.0, subst (λ k. IsClosedUnder k t) deeper (IsClosedUnder-more (n + binders l) m t h.1))

rule_under : (a : Application) (ι : Instance) → IsAssumed a → IsAssumed (application_under ι a)
rule_under a ι h =
    record {
      of_trait = h.of_trait;
      rows = instance_of ι h.rows;
      environment = ap (instance_of ι) h.environment;
      sorts = instance_of ι h.sorts;
      listed = listed-replace ι.value h.sorts h.listed;
      head = instance_of ι h.head;
      head_row = IsRow-replace ι.value h.head h.head_row;
      among = in_row-replace ι.value (assumed_clause h.sorts h.of_trait h.head) h.rows h.among;
      values = subst (λ ss. AreValuesOf ss (map (instance_of ι) a.values)) (sym (sorts-replace ι.value h.sorts h.listed)) (values_under ι (sorts_in h.sorts) a.values h.values);
      with_arguments = instance_of ι h.with_arguments;
      row = IsRow-replace ι.value h.with_arguments h.row;
      as_many = row_length-replace ι.value h.with_arguments h.row ∙ h.as_many ∙ sym (row_length-replace ι.value h.head h.head_row);
      conclusion = ap (instance_of ι) h.conclusion;
      equations = ap (map (equation_by (instance_of ι))) h.equations ∙ equations-replace ι.value h.with_arguments (valued a.values 0 h.head) h.row (valued_row a.values 0 h.head h.head_row) ∙ ap (equations_of (instance_of ι h.with_arguments)) (replaced_valued ι.value a.values (closed_below ι) 0 h.head);
      no_goals = ap (map _) h.no_goals;
      no_constraints = ap (map _) h.no_constraints;
      no_hidden = ap (map _) h.no_hidden;
    }

-- where an offer comes from
pub record IsOffered (i : ℕ) (us ps : Tree) (c : Candidate) : Type 0 where
  pub predicate : Tree
  pub among : IsInRow predicate ps
  pub kind : kind_of predicate ≡ Some bound_predicate
  pub formed : IsFormed predicate
  pub here : Among (offer_if i us predicate (trait_of predicate)) c

offered_from : (i : ℕ) (us ps : Tree) (c : Candidate) → AllFit (is bound_predicate) ps → IsFormed ps → Among (offers_over i us ps) c → IsOffered i us ps c
offered_from i us empty c h f a = absurd a
offered_from i us (more p ps) c h f a = elim (parted (offer_if i us p (trait_of p)) (offers_over i us ps) c a) [
  | inl b ↦ record { predicate = p; among = inl refl; kind = h.0; formed = f.0; here = b }
  | inr b ↦ let o = offered_from i us ps c h.1 f.1 b in record { predicate = o.predicate; among = inr o.among; kind = o.kind; formed = o.formed; here = o.here }
]
offered_from i us (node l c') c h f a = absurd h

-- .. of an environment
pub record IsOfferedIn (i : ℕ) (us e : Tree) (c : Candidate) : Type 0 where
  pub rows : Tree
  pub is : e ≡ node (label.List list.Env) rows
  pub from : IsOffered i us rows c

pub offered_in : (i : ℕ) (us e : Tree) (c : Candidate) → IsFormed e → Among (offers_over i us (rows_of e)) c → IsOfferedIn i us e c
offered_in i us (node (label.List list.Env) ps) c f a = record { rows = ps; is = refl; from = offered_from i us ps c f.0 f.1 a }
offered_in i us (node (label.List list.Args) ps) c f a = absurd a
offered_in i us (node (label.List list.Sorts) ps) c f a = absurd a
offered_in i us (node (label.List (list.Sort s)) ps) c f a = absurd a
offered_in i us (node (label.List list.Binder) ps) c f a = absurd a
offered_in i us e c f a = absurd a

pub row_positions : (t r : Tree) → IsInRow t r → any_label is_canonical r ≡ false → any_label is_canonical t ≡ false
row_positions t empty i h = absurd i
row_positions t (more u us) (inl e) h = rw e (both_false (any_label is_canonical u) (any_label is_canonical us) h).0
row_positions t (more u us) (inr i) h = row_positions t us i (both_false (any_label is_canonical u) (any_label is_canonical us) h).1
row_positions t (node l c) i h = absurd i

-- what is offered for a trait's clause
pub record IsOfferFor (i : ℕ) (us ss hs : Tree) (j : ℕ) (c : Candidate) : Type 0 where
  pub same : j ≡ i
  pub as_many : row_length us ≡ row_length hs
  pub is : c ≡ assumed_offer us (sorts_in ss) hs

pub where_among : (w : Bool) (d c : Candidate) → Among (offer_where w d) c → (w ≡ true) × (c ≡ d)
where_among true d c (inl e) = (refl, e)
where_among true d c (inr a) = absurd a
where_among false d c a = absurd a

pub fits_both : (b : Bool) (n m : ℕ) → (if b then n == m else false) ≡ true → (b ≡ true) × ((n == m) ≡ true)
fits_both true n m h = (refl, h)
fits_both false n m h = cc

pub offer_for : (i : ℕ) (us p : Tree) (c : Candidate) → (a : IsTraitRow p) → Among (offer_if i us p (trait_of p)) c → IsOfferFor i us a.sorts a.head a.of_trait c
offer_for i us p c a among =
    let here : Among (offer_where (fits_trait i us (a.of_trait, node (label.List list.Args) a.head)) (assumed_offer us (sorts_in a.sorts) a.head)) c = rw a.is at among in
    let w = where_among (fits_trait i us (a.of_trait, node (label.List list.Args) a.head)) (assumed_offer us (sorts_in a.sorts) a.head) c here in
    let b = fits_both (a.of_trait == i) (row_length us) (row_length a.head) w.0 in
    record { same = eqb-true a.of_trait i b.0; as_many = eqb-true (row_length us) (row_length a.head) b.1; is = w.1 }

pub none_among : (i : ℕ) (us p : Tree) (c : Candidate) → IsOtherRow p → Among (offer_if i us p (trait_of p)) c → ⊥
none_among i us p c n among = let nothing : Among (offer_if i us p None) c = rw n.none at among in absurd nothing

pub head_free : (ss : Tree) (j : ℕ) (hs : Tree) → any_label is_canonical (assumed_clause ss j hs) ≡ false → any_label is_canonical hs ≡ false
head_free ss j hs h =
    let two = both_false (any_label is_canonical (node (label.List list.Sorts) ss)) (any_label is_canonical (more (node (label.Clause (clause.Trait j)) (arguments hs)) empty)) h in
    let one = both_false (any_label is_canonical (arguments hs)) false two.1 in
    (both_false (any_label is_canonical hs) false one.0).0

instance_of_offer : (e us rows p : Tree) (i : ℕ) (c : Candidate) (ι : Instance) (a : Application) → IsRow us → any_label is_canonical e ≡ false → any_label is_canonical us ≡ false
    → e ≡ node (label.List list.Env) rows → IsInRow p rows → (s : IsTraitRow p) → IsOfferFor i us s.sorts s.head s.of_trait c → IsInstanceFor c e (trait_goal i us) ι a → IsAssumed a
instance_of_offer e us rows p i c ι a r ne nu env among s o inst =
    let made : a ≡ use_of (assumed_offer us (sorts_in s.sorts) s.head) e (trait_goal i us) ι a.values = rw o.is at inst.same in
    let free_rows : any_label is_canonical rows ≡ false = rw env at ne in
    let free : any_label is_canonical (assumed_clause s.sorts s.of_trait s.head) ≡ false = rw s.is at (row_positions p rows among free_rows) in
    let free_head : any_label is_canonical s.head ≡ false = head_free s.sorts s.of_trait s.head free in
    let placed_eq : equations_of (filled_under ι.value a.values us) (filled_under ι.value a.values (positioned 0 s.head)) ≡ equations_of (instance_of ι us) (valued a.values 0 (instance_of ι s.head)) =
    ap (λ x. equations_of x (filled_under ι.value a.values (positioned 0 s.head))) (filled_nowhere ι.value a.values us nu)
    ∙ ap (equations_of (instance_of ι us)) (filled_positioned ι.value a.values (closed_below ι) 0 s.head free_head) in
    record {
      of_trait = i;
      rows = instance_of ι rows;
      environment = ap (λ x. x.environment) made ∙ ap (instance_of ι) env;
      sorts = instance_of ι s.sorts;
      listed = listed-replace ι.value s.sorts s.listed;
      head = instance_of ι s.head;
      head_row = IsRow-replace ι.value s.head s.row;
      among = subst (λ j. IsInRow (assumed_clause (instance_of ι s.sorts) j (instance_of ι s.head)) (instance_of ι rows)) o.same (subst (λ q. IsInRow q (instance_of ι rows)) (ap (instance_of ι) s.is) (in_row-replace ι.value p rows among));
      values = subst (λ ss. AreValuesOf ss a.values) (sym (sorts-replace ι.value s.sorts s.listed)) (rw o.is at inst.values);
      with_arguments = instance_of ι us;
      row = IsRow-replace ι.value us r;
      as_many = row_length-replace ι.value us r ∙ o.as_many ∙ sym (row_length-replace ι.value s.head s.row);
      conclusion = ap (λ x. x.conclusion) made;
      equations = ap (λ x. x.equations) made ∙ equations-filled ι.value a.values us (positioned 0 s.head) r (positioned_row 0 s.head s.row) ∙ placed_eq;
      no_goals = ap (λ x. x.goals) made;
      no_constraints = ap (λ x. x.constraints) made;
      no_hidden = ap (λ x. x.hidden) made;
    }

pub commute : CandidatesCommute assuming
commute = record { renaming = λ mode e g ρ p h. by_goal e g ρ h.formed.0 (trait_or_other e g h) }
  where
    by_goal : (e g : Tree) (ρ : Renaming) → IsFormed e → IsTraitGoal g ⊎ IsOtherGoal g → assumed_offers (rename ρ e) (trait_of (rename ρ g)) ≡ map (renamed_candidate ρ) (assumed_offers e (trait_of g))
    by_goal e g ρ f (inl t) = rw t.is (env_renamed ρ t.of_trait t.with_arguments e t.row f)
    by_goal e g ρ f (inr o) =
        ap (assumed_offers (rename ρ e)) (o.none_under (λ l. leaf_tree (ρ.to l))) ∙ sym (ap (λ x. map (renamed_candidate ρ) (assumed_offers e x)) o.none)

pub rules : InstancesAreRules assuming
rules =
    record {
      instances = λ mode e g c ι a h among sure inst. by_goal e g c ι a h among inst (trait_or_other e g h);
      closed = λ mode a ι h. rule_under a ι h;
    }
  where
    by_goal : (e g : Tree) (c : Candidate) (ι : Instance) (a : Application) → IsAsked e g → Among (assumed_offers e (trait_of g)) c → IsInstanceFor c e g ι a → IsTraitGoal g ⊎ IsOtherGoal g → IsAssumed a
    by_goal e g c ι a h among inst (inl t) =
        let offers : Among (offers_over t.of_trait t.with_arguments (rows_of e)) c = rw t.is at among in
        let lacks : any_label is_canonical (pair e (trait_goal t.of_trait t.with_arguments)) ≡ false = rw t.is at h.no_positions in
        let free = asked_of e t.with_arguments t.of_trait lacks in
        let instance : IsInstanceFor c e (trait_goal t.of_trait t.with_arguments) ι a = rw t.is at inst in
        let o = offered_in t.of_trait t.with_arguments e c h.formed.0 offers in
        elim (clause_shape o.from.predicate o.from.kind o.from.formed) [
          | inl s ↦ instance_of_offer e t.with_arguments o.rows o.from.predicate t.of_trait c ι a t.row free.environment free.arguments o.is o.from.among s (offer_for t.of_trait t.with_arguments o.from.predicate c s o.from.here) instance
          | inr n ↦ absurd (none_among t.of_trait t.with_arguments o.from.predicate c n o.from.here)
        ]
    by_goal e g c ι a h among inst (inr o) =
        let nothing : Among (assumed_offers e None) c = rw o.none at among in absurd nothing
