-- Trees that are alike are related, and goals stand, where each alias may stand for itself.
use Rattle.std.proofs.Common.{◌≡◌, ◌⊎◌, inl, inr, ⊎_elim, ℕ, zero, suc, ◌+◌, ◌<◌, List, [], ◌∷◌, refl, sym, ap, arith, subst}
use Rattle.nts_model.specs.declared.labels.Variance.{Variance}
use Rattle.nts_model.specs.declared.labels.Variance.TheVariants as variance
use Rattle.nts_model.specs.declared.labels.Relation.TheVariants as relation
use Rattle.nts_model.specs.declared.labels.TyHead.TheVariants as ty
use Rattle.nts_model.specs.declared.labels.ConstHead.TheVariants as konst
use Rattle.nts_model.specs.declared.labels.ListHead.TheVariants as list
use Rattle.nts_model.specs.declared.labels.AliasHead.{AliasHead}
use Rattle.nts_model.specs.declared.labels.AliasHead.TheVariants as alias_of
use Rattle.nts_model.specs.declared.labels.Label.{Label}
use Rattle.nts_model.specs.declared.labels.Label.TheVariants as label
use Rattle.nts_model.specs.Terms.Trees.{Tree, empty, more, node, size, kind_of, arguments, sort_list, IsClosed, is, any_argument, FitsPlace, HavePlaces, AllFit, a_type, IsFormed}
use Rattle.nts_model.specs.Tables.Alike.{Alike}
use Rattle.nts_model.specs.Derivations.Related.{Constraint, alias_goal, constructor, function, value, alias_label, alias, IsAlias, Related, AreRelatedByArgument, regions, constructors, functions, values, open_aliases, aliases, no_more, and_more, rest_variances, function_variances}
use Rattle.nts_model.specs.Derivations.Related.{arguments as arguments_of}
use Rattle.nts_model.specs.Derivations.Related.{one_tree as same_tree}
use Rattle.nts_model.specs.Lists.{Among}
use Rattle.nts_model.specs.Derivations.Sequents.{Premise, constraint_under, Grants}
use Rattle.nts_model.specs.Derivations.Rules.{Meaning, Mode, GoalKind, choice, IsTerm, Replaced, chosen, kept_empty, kept_more, kept_node, relating}
use Rattle.nts_model.proofs.Terms.Substituting.{no_children}
use Rattle.nts_theory.proofs.Derivations.Monotone.{related_more, are_related_more, replaced_more}
use Rattle.nts_model.proofs.Terms.Composing.{itself}
use Rattle.nts_model.proofs.Terms.Unpositioned.{IsFormedTerm, term_formed, term_no_positions, term_well_bound}
use Rattle.nts_model.proofs.Terms.Closed.{closed_or_not}
use Rattle.nts_theory.proofs.Derivations.Served.{sequent_of, IsServed, Owes, Grows, owes_none, owes_then, owes_both, owes_one, OfAliases, IsClosedEnvironment, aliases_served}
use Rattle.nts_model.proofs.Tables.AlikeNodes.{arguments_in, alias_or_not, alias_places, IsNodeLike, that_node, that_region, that_label, node_like, IsRowLike, that_row, that_first, row_like, empty_like, arguments_like, sort_list_like, alike_closed, alike_closed_back}

module _ (m : Meaning) (mode : Mode) (e : Tree) (cs : List Constraint) (formed : IsFormed e) (closed : IsClosedEnvironment e)
    (read : (x : Constraint) → Among cs x → constraint_under itself x ≡ x) where
  abbrev pub Follows : ((Premise → Type 0) → Type 0) → Type 0
  Follows = Owes m mode e cs

  -- two arguments, and two rows of arguments, are related from premises about aliases
  abbrev pub Relates : Tree → Tree → (Premise → Type 0) → Type 0
  Relates a b P = Related m.variances (λ t. Unit {0}) (Grants (sequent_of m mode e cs empty)) (OfAliases e P) variance.Invariant a b

  abbrev pub RelatesRows : List Variance → Tree → Tree → (Premise → Type 0) → Type 0
  RelatesRows ws ts us P = AreRelatedByArgument m.variances (λ t. Unit {0}) (Grants (sequent_of m mode e cs empty)) (OfAliases e P) variance.Invariant ws ts us

  relates_grows : (a b : Tree) → Grows m mode e cs (Relates a b)
  relates_grows a b P Q f x = related_more (λ g z. (z.0, f (relating e g) z.1)) x

  rows_grow : (ws : List Variance) (ts us : Tree) → Grows m mode e cs (RelatesRows ws ts us)
  rows_grow ws ts us P Q f x = are_related_more (λ g z. (z.0, f (relating e g) z.1)) x

  rows_same : (ts : Tree) → AllFit any_argument ts → (ws : List Variance) (P : Premise → Type 0) → RelatesRows ws ts ts P
  rows_same empty h ws P = no_more
  rows_same (more a s) h ws P = and_more (same_tree tt) (rows_same s h.1 (rest_variances ws) P)
  rows_same (node l c) h ws P = absurd h

  tree_same : (a : Tree) → Follows (Relates a a)
  tree_same a = owes_none m mode e cs (Relates a a) (λ P. same_tree tt)

  -- an alias stands for itself
  itself_served : (k : GoalKind) (p : Premise) (t : Tree) → p.environment ≡ e → IsFormedTerm t → IsAlias t → IsServed m mode e cs (choice k p t t)
  itself_served k p t x f found =
      let g : IsFormedTerm (alias found.head found.parts) = subst IsFormedTerm found.is f in
      let i : IsClosed (alias found.head found.parts) = subst IsClosed found.is found.closed in
      let places = alias_places found.head (arguments_of found.parts) g in
      let fit : AllFit any_argument found.parts = (let a = places.1 in let b = a.0 in b.0) in
      aliases_served m mode e cs formed closed read found.head found.parts found.parts (choice k p t t) g g i i x
      (ap (λ y. alias_goal variance.Invariant y y) found.is)
      (owes_none m mode e cs (RelatesRows [] found.parts found.parts) (λ P. rows_same found.parts fit [] P))

  abbrev pub Chooses : GoalKind → Premise → Tree → (Premise → Type 0) → Type 0
  Chooses k p t P = Replaced (λ a v. Unit {0} × P (choice k p a v) × IsTerm v) t t

  pub chooses_grows : (k : GoalKind) (p : Premise) (t : Tree) → Grows m mode e cs (Chooses k p t)
  chooses_grows k p t P Q f x = replaced_more (λ a v z. (z.0, f (choice k p a v) z.1, z.2)) x

  node_chooses : (k : GoalKind) (p : Premise) (l : Label) (c : Tree) → p.environment ≡ e → IsFormedTerm (node l c) → Follows (Chooses k p c) → IsAlias (node l c) ⊎ (IsAlias (node l c) → ⊥) → Follows (Chooses k p (node l c))
  node_chooses k p l c x f o (inl found) =
      owes_then m mode e cs (λ P. P (choice k p (node l c) (node l c))) (Chooses k p (node l c)) (λ P z. chosen found found.closed (tt, z, record { formed = term_formed (node l c) f; closed = found.closed; no_positions = term_no_positions (node l c) f; well_bound = term_well_bound (node l c) f }))
      (owes_one m mode e cs (choice k p (node l c) (node l c)) (itself_served k p (node l c) x f found))
  node_chooses k p l c x f o (inr none) = owes_then m mode e cs (Chooses k p c) (Chooses k p (node l c)) (λ P z. kept_node none z) o

  pub chooses_itself : (k : GoalKind) (p : Premise) (t : Tree) → p.environment ≡ e → IsFormedTerm t → Follows (Chooses k p t)
  chooses_itself k p empty x f = owes_none m mode e cs (Chooses k p empty) (λ P. kept_empty)
  chooses_itself k p (more a b) x f =
      owes_then m mode e cs (λ P. Chooses k p a P × Chooses k p b P) (Chooses k p (more a b)) (λ P z. kept_more z.0 z.1)
      (owes_both m mode e cs (Chooses k p a) (Chooses k p b) (chooses_grows k p a) (chooses_grows k p b) (chooses_itself k p a x f.0) (chooses_itself k p b x f.1))
  chooses_itself k p (node l c) x f = node_chooses k p l c x f (chooses_itself k p c x f.1) (alias_or_not l c f)

  -- trees that are alike, where their regions are made one by the constraints
  module _ (R : Tree → Tree → Type 0) (holds : (x y : Tree) → R x y → Grants (sequent_of m mode e cs empty) (record { relation = relation.Equal; left = x; right = y })) where
    abbrev Step : ℕ → Type 0
    Step n = (a b : Tree) → size a < n → Alike R a b → IsFormedTerm a → IsFormedTerm b → FitsPlace any_argument (kind_of a) → Follows (Relates a b)

    row_step : (n : ℕ) → Step n → (a s us : Tree) → size (more a s) < n → IsRowLike R a s us → AllFit any_argument (more a s) → IsFormedTerm (more a s) → IsFormedTerm us → (ws : List Variance)
        → ((u : Tree) → Alike R s u → IsFormedTerm u → Follows (RelatesRows (rest_variances ws) s u)) → Follows (RelatesRows ws (more a s) us)
    row_step n step a s us l (that_row same) h f g ws rest =
        subst (λ x. Follows (RelatesRows ws (more a s) x)) (sym same) (owes_none m mode e cs (RelatesRows ws (more a s) (more a s)) (λ P. rows_same (more a s) h ws P))
    row_step n step a s us l (that_first b u same x y) h f g ws rest =
        let both : IsFormedTerm (more b u) = subst IsFormedTerm same g in
        let less : size a + size s + 1 < n = l in
        subst (λ z. Follows (RelatesRows ws (more a s) z)) (sym same)
        (owes_then m mode e cs (λ P. Relates a b P × RelatesRows (rest_variances ws) s u P) (RelatesRows ws (more a s) (more b u)) (λ P z. and_more z.0 z.1)
        (owes_both m mode e cs (Relates a b) (RelatesRows (rest_variances ws) s u) (relates_grows a b) (rows_grow (rest_variances ws) s u)
        (step a b (omega (arith, less)) x f.0 both.0 h.0) (rest u y both.1)))

    rows : (n : ℕ) → Step n → (ts us : Tree) → size ts < n → Alike R ts us → AllFit any_argument ts → IsFormedTerm ts → IsFormedTerm us → (ws : List Variance) → Follows (RelatesRows ws ts us)
    rows n step empty us l al h f g ws =
        subst (λ x. Follows (RelatesRows ws empty x)) (sym (empty_like R us al)) (owes_none m mode e cs (RelatesRows ws empty empty) (λ P. no_more))
    rows n step (node l c) us lt al h f g ws = absurd h
    rows n step (more a s) us l al h f g ws =
        let less : size a + size s + 1 < n = l in
        row_step n step a s us l (row_like R a s us al) h f g ws (λ u x y. rows n step s u (omega (arith, less)) x h.1 f.1 y (rest_variances ws))

    -- nodes whose children are arguments
    with_arguments : (n : ℕ) → Step n → (c d : Tree) → size c < n → HavePlaces (is arguments ∷ []) c → IsFormedTerm c → IsFormedTerm d → Alike R c d → (ws : Tree → List Variance) → (Z : Type 0)
        → ((ts us : Tree) → c ≡ arguments_of ts → d ≡ arguments_of us → Follows (RelatesRows (ws ts) ts us) → Z) → Z
    with_arguments n step c d l h f g al ws Z go =
        let args = arguments_in c h f in
        let (us, same, under) = arguments_like R args.parts d (subst (λ x. Alike R x d) args.is al) in
        let both : IsFormedTerm (arguments_of us) = subst IsFormedTerm same g in
        let less : size args.parts + 1 + 0 + 1 < n = subst (λ x. size x < n) args.is l in
        go args.parts us args.is same (rows n step args.parts us (omega (arith, less)) under args.fit args.formed (let b = both.0 in b.1) (ws args.parts))

    constructor_step : (n : ℕ) → Step n → (i : ℕ) (c d : Tree) → size c < n → IsFormedTerm (node (label.Ty (ty.Ctor i)) c) → IsFormedTerm (node (label.Ty (ty.Ctor i)) d) → Alike R c d
        → Follows (Relates (node (label.Ty (ty.Ctor i)) c) (node (label.Ty (ty.Ctor i)) d))
    constructor_step n step i c d l f g al =
        with_arguments n step c d l f.0 f.1 g.1 al (λ ts. m.variances i) (Follows (Relates (node (label.Ty (ty.Ctor i)) c) (node (label.Ty (ty.Ctor i)) d)))
        (λ ts us p q o. rw (p, q) (owes_then m mode e cs (RelatesRows (m.variances i) ts us) (Relates (constructor i ts) (constructor i us)) (λ P z. constructors z) o))

    alias_related : (h : AliasHead) (ts us : Tree) → IsFormedTerm (alias h ts) → IsFormedTerm (alias h us) → Alike R (alias h ts) (alias h us) → Follows (RelatesRows [] ts us) → Follows (Relates (alias h ts) (alias h us))
    alias_related h ts us f g al o = ⊎_elim
        (λ k. let goal = alias_goal variance.Invariant (alias h ts) (alias h us) in
        let served = aliases_served m mode e cs formed closed read h ts us (relating e goal) f g k (alike_closed R 0 (alias h ts) (alias h us) al k) refl refl o in
        owes_then m mode e cs (λ P. P (relating e goal)) (Relates (alias h ts) (alias h us)) (λ P z. aliases (inl (record { head = h; parts = ts; is = refl; closed = k })) k (alike_closed R 0 (alias h ts) (alias h us) al k) (tt, z))
        (owes_one m mode e cs (relating e goal) served))
        (λ n. owes_then m mode e cs (RelatesRows [] ts us) (Relates (alias h ts) (alias h us)) (λ P z. open_aliases h n (λ x. n (alike_closed_back R 0 (alias h ts) (alias h us) al x)) z) o)
        (closed_or_not 0 (alias h ts))

    alias_step : (n : ℕ) → Step n → (h : AliasHead) (c d : Tree) → size c < n → IsFormedTerm (node (alias_label h) c) → IsFormedTerm (node (alias_label h) d) → Alike R (node (alias_label h) c) (node (alias_label h) d) → Alike R c d
        → Follows (Relates (node (alias_label h) c) (node (alias_label h) d))
    alias_step n step h c d l f g all al =
        let places = alias_places h c f in
        with_arguments n step c d l places.0 places.1 (alias_places h d g).1 al (λ ts. []) (Follows (Relates (node (alias_label h) c) (node (alias_label h) d)))
        (λ ts us p q o.
        let f' : IsFormedTerm (alias h ts) = subst (λ x. IsFormedTerm (node (alias_label h) x)) p f in
        let g' : IsFormedTerm (alias h us) = subst (λ x. IsFormedTerm (node (alias_label h) x)) q g in
        let al' : Alike R (alias h ts) (node (alias_label h) d) = subst (λ x. Alike R (node (alias_label h) x) (node (alias_label h) d)) p all in
        let al'' : Alike R (alias h ts) (alias h us) = subst (λ x. Alike R (alias h ts) (node (alias_label h) x)) q al' in
        rw (p, q) (alias_related h ts us f' g' al'' o))

    function_parts : (n : ℕ) → Step n → (s r s' r' ss : Tree) → s ≡ node (label.List list.Sorts) ss → s' ≡ node (label.List list.Sorts) ss → size r < n
        → HavePlaces (is arguments ∷ []) r → IsFormedTerm r → IsFormedTerm r' → Alike R r r' → Follows (Relates (node (label.Ty ty.FnPtr) (more s r)) (node (label.Ty ty.FnPtr) (more s' r')))
    function_parts n step s r s' r' ss p q l h f g al =
        with_arguments n step r r' l h f g al function_variances (Follows (Relates (node (label.Ty ty.FnPtr) (more s r)) (node (label.Ty ty.FnPtr) (more s' r'))))
        (λ ts us i j o. rw (p, q, i, j) (owes_then m mode e cs (RelatesRows (function_variances ts) ts us) (Relates (function ss ts) (function ss us)) (λ P z. functions z) o))

    function_rows : (n : ℕ) → Step n → (s r d : Tree) → size (more s r) < n → HavePlaces (is sort_list ∷ is arguments ∷ []) (more s r) → IsFormedTerm (more s r) → IsFormedTerm d → IsRowLike R s r d
        → Follows (Relates (node (label.Ty ty.FnPtr) (more s r)) (node (label.Ty ty.FnPtr) d))
    function_rows n step s r d l h f g (that_row same) = rw same (tree_same (node (label.Ty ty.FnPtr) (more s r)))
    function_rows n step s r d l h f g (that_first s' r' same x y) =
        let both : IsFormedTerm (more s' r') = subst IsFormedTerm same g in
        let less : size s + size r + 1 < n = l in
        let sorts = sort_list_like R s s' h.0 f.0 x in
        rw same (function_parts n step s r s' r' sorts.0 sorts.1 sorts.2 (omega (arith, less)) h.1 f.1 both.1 y)

    function_step : (n : ℕ) → Step n → (c d : Tree) → size c < n → IsFormedTerm (node (label.Ty ty.FnPtr) c) → IsFormedTerm (node (label.Ty ty.FnPtr) d) → Alike R c d
        → Follows (Relates (node (label.Ty ty.FnPtr) c) (node (label.Ty ty.FnPtr) d))
    function_step n step empty d l f g al = absurd f.0
    function_step n step (node x y) d l f g al = absurd f.0
    function_step n step (more s r) d l f g al = function_rows n step s r d l f.0 f.1 g.1 (row_like R s r d al)

    value_rows : (n : ℕ) → Step n → (b : ℕ) (t r d : Tree) → size (more t r) < n → HavePlaces (a_type ∷ []) (more t r) → IsFormedTerm (more t r) → IsFormedTerm d → IsRowLike R t r d
        → Follows (Relates (node (label.Const (konst.Value b)) (more t r)) (node (label.Const (konst.Value b)) d))
    value_rows n step b t r d l h f g (that_row same) = rw same (tree_same (node (label.Const (konst.Value b)) (more t r)))
    value_rows n step b t r d l h f g (that_first t' r' same x y) =
        let both : IsFormedTerm (more t' r') = subst IsFormedTerm same g in
        let less : size t + size r + 1 < n = l in
        let alone : r ≡ empty = no_children r h.1 in
        let alone' : r' ≡ empty = empty_like R r' (subst (λ z. Alike R z r') alone y) in
        let argument : FitsPlace any_argument (kind_of t) = subst (FitsPlace any_argument) (sym h.0) tt in
        rw (same, alone, alone')
        (owes_then m mode e cs (Relates t t') (Relates (value b t) (value b t')) (λ P z. values z) (step t t' (omega (arith, less)) x f.0 both.0 argument))

    value_step : (n : ℕ) → Step n → (b : ℕ) (c d : Tree) → size c < n → IsFormedTerm (node (label.Const (konst.Value b)) c) → IsFormedTerm (node (label.Const (konst.Value b)) d) → Alike R c d
        → Follows (Relates (node (label.Const (konst.Value b)) c) (node (label.Const (konst.Value b)) d))
    value_step n step b empty d l f g al = absurd f.0
    value_step n step b (node x y) d l f g al = absurd f.0
    value_step n step b (more t r) d l f g al = value_rows n step b t r d l f.0 f.1 g.1 (row_like R t r d al)

    alone_step : (l : Label) (c d : Tree) → HavePlaces [] c → Alike R c d → Follows (Relates (node l c) (node l d))
    alone_step l c d h al =
        let none : c ≡ empty = no_children c h in
        let none' : d ≡ empty = empty_like R d (subst (λ x. Alike R x d) none al) in
        rw (none, none') (tree_same (node l empty))

    label_step : (n : ℕ) → Step n → (l : Label) (c d : Tree) → size c < n → IsFormedTerm (node l c) → IsFormedTerm (node l d) → Alike R (node l c) (node l d) → Alike R c d → FitsPlace any_argument (kind_of (node l c))
        → Follows (Relates (node l c) (node l d))
    label_step n step (label.Ty (ty.Ctor i)) c d lt f g all al arg = constructor_step n step i c d lt f g al
    label_step n step (label.Ty ty.FnPtr) c d lt f g all al arg = function_step n step c d lt f g al
    label_step n step (label.Ty (ty.Alias i)) c d lt f g all al arg = alias_step n step (alias_of.Ty i) c d lt f g all al
    label_step n step (label.Ty (ty.Int i)) c d lt f g all al arg = alone_step (label.Ty (ty.Int i)) c d f.0 al
    label_step n step (label.Ty (ty.Uint i)) c d lt f g all al arg = alone_step (label.Ty (ty.Uint i)) c d f.0 al
    label_step n step (label.Ty (ty.Float i)) c d lt f g all al arg = alone_step (label.Ty (ty.Float i)) c d f.0 al
    label_step n step (label.Ty ty.Error) c d lt f g all al arg = alone_step (label.Ty ty.Error) c d f.0 al
    label_step n step (label.Const (konst.Unevaluated i)) c d lt f g all al arg = alias_step n step (alias_of.Const i) c d lt f g all al
    label_step n step (label.Const (konst.Value b)) c d lt f g all al arg = value_step n step b c d lt f g al
    label_step n step (label.Const konst.Error) c d lt f g all al arg = alone_step (label.Const konst.Error) c d f.0 al
    label_step n step (label.Leaf x) c d lt f g all al arg = alone_step (label.Leaf x) c d f.0 al
    label_step n step (label.Bound s i k) c d lt f g all al arg = alone_step (label.Bound s i k) c d f.0 al
    label_step n step (label.Clause h) c d lt f g all al arg = absurd arg
    label_step n step (label.Predicate h) c d lt f g all al arg = absurd arg
    label_step n step (label.List list.Args) c d lt f g all al arg = absurd arg
    label_step n step (label.List list.Env) c d lt f g all al arg = absurd arg
    label_step n step (label.List list.Sorts) c d lt f g all al arg = absurd arg
    label_step n step (label.List (list.Sort s)) c d lt f g all al arg = absurd arg
    label_step n step (label.List list.Binder) c d lt f g all al arg = absurd arg

    node_step : (n : ℕ) → Step n → (l : Label) (c b : Tree) → size c < n → IsNodeLike R l c b → Alike R (node l c) b → IsFormedTerm (node l c) → IsFormedTerm b → FitsPlace any_argument (kind_of (node l c)) → Follows (Relates (node l c) b)
    node_step n step l c b lt (that_node same) al f g arg = rw same (tree_same (node l c))
    node_step n step l c b lt (that_region i j r) al f g arg = owes_none m mode e cs (Relates (node l c) b) (λ P. regions i j (holds (node l c) b r))
    node_step n step l c b lt (that_label d same under) al f g arg =
        rw same (label_step n step l c d lt f (subst IsFormedTerm same g) (subst (Alike R (node l c)) same al) under arg)

    related_below : (n : ℕ) → Step n
    related_below zero a b l al f g arg = absurd (omega (arith, l))
    related_below (suc n) empty b l al f g arg = absurd arg
    related_below (suc n) (more a s) b l al f g arg = absurd arg
    related_below (suc n) (node l c) b lt al f g arg =
        let less : size c + 1 < suc n = lt in
        node_step n (related_below n) l c b (omega (arith, less)) (node_like R l c b al) al f g arg

    -- arguments that are alike are related
    pub alike_related : (a b : Tree) → Alike R a b → IsFormedTerm a → IsFormedTerm b → FitsPlace any_argument (kind_of a) → Follows (Relates a b)
    alike_related a b al f g arg = related_below (suc (size a)) a b (omega arith) al f g arg
