-- Terms in which no alias stands: rows, nodes over parts, pairs, steps, and what stays so in later tables.
use Rattle.std.proofs.Common.{◌≡◌, Bool, false, List, [], ◌∷◌, ◌++◌, refl, sym, ap, ◌∙◌}
use Rattle.std.specs.Prelude.{◌||◌}
use Rattle.std.proofs.lemmas.Bool.{or_parts}
use Rattle.nts_model.specs.declared.labels.Variance.{Variance}
use Rattle.nts_model.specs.declared.labels.AliasHead.{AliasHead}
use Rattle.nts_model.specs.declared.labels.AliasHead.TheVariants as alias_of
use Rattle.nts_model.specs.declared.labels.TyHead.TheVariants as ty
use Rattle.nts_model.specs.declared.labels.ConstHead.TheVariants as konst
use Rattle.nts_model.specs.declared.labels.Label.TheVariants as label
use Rattle.nts_model.specs.Terms.Trees.{Tree, empty, more, node, any_label, is_alias, IsRow}
use Rattle.nts_model.specs.Tables.Contents.{Content}
use Rattle.nts_model.specs.Tables.Resolving.{Knows, resolved, deeply_resolved}
use Rattle.nts_model.specs.Tables.Holding.{Continues}
use Rattle.nts_model.specs.Derivations.Related.{rest_variances, alias, arguments, IsAlias}
use Rattle.nts_model.proofs.Tables.Resolved.{resolved-empty, resolved-more, resolved-node}
use Rattle.nts_variance_model.specs.Variances.Forms.{Form, a_constructor, a_function, a_value, an_alias, over, pairs_over}
use Rattle.nts_variance_model.specs.Variances.Relations.{Relating, ArePairsKnown}
use Rattle.nts_relating.specs.Relating.{IsPlainIn, KeepsPlain}
use Rattle.nts_relating.proofs.Plain.{plain_rooted}
use Rattle.nts_variance.specs.Steps.{WalkStep, enter, build, owe, entering}
use Rattle.nts_variance.specs.Walking.{IsTableGrown, KnowsSteps, KnowsTrees}
use Rattle.nts_variance.specs.Plain.{ArePairsPlain, AreTreesPlain, AreStepsPlain, StaysPlain}
use Rattle.nts_variance.proofs.Founding.{founds_none, founds_then}
use Rattle.nts_variance.proofs.Growing.{Knows-grown}
use Rattle.nts_variance.proofs.Runs.{pushed}

both_false : (x y : Bool) → x ≡ false → y ≡ false → (x || y) ≡ false
both_false x y e f = rw (e, f) refl

-- rows
plain_empty : (c : Content) → IsPlainIn c empty
plain_empty c = ap (any_label is_alias) (resolved-empty c)

plain_more : (c : Content) (a b : Tree) → IsPlainIn c a → IsPlainIn c b → IsPlainIn c (more a b)
plain_more c a b h k = ap (any_label is_alias) (resolved-more c a b) ∙ both_false (any_label is_alias (resolved c a)) (any_label is_alias (resolved c b)) h k

more_plain : (c : Content) (a b : Tree) → IsPlainIn c (more a b) → IsPlainIn c a × IsPlainIn c b
more_plain c a b h = or_parts (any_label is_alias (resolved c a)) (any_label is_alias (resolved c b)) (ap (any_label is_alias) (sym (resolved-more c a b)) ∙ h)

-- nodes over parts
label_over : (F : Form) (ts : Tree) → any_label is_alias (over F ts) ≡ false → (any_label is_alias (over F empty) ≡ false) × (any_label is_alias ts ≡ false)
label_over (a_constructor i) ts h = (refl, (or_parts (any_label is_alias ts) false h).0)
label_over (a_function ss) ts h =
    let p = or_parts (any_label is_alias ss) (any_label is_alias (arguments ts)) h in
    (both_false (any_label is_alias ss) false p.0 refl, (or_parts (any_label is_alias ts) false p.1).0)
label_over (a_value b) ts h = (refl, h)
label_over (an_alias (alias_of.Ty i)) ts h = cc h
label_over (an_alias (alias_of.Const i)) ts h = cc h

over_label : (F : Form) (ts : Tree) → any_label is_alias (over F empty) ≡ false → any_label is_alias ts ≡ false → any_label is_alias (over F ts) ≡ false
over_label (a_constructor i) ts f h = both_false (any_label is_alias ts) false h refl
over_label (a_function ss) ts f h =
    let p = or_parts (any_label is_alias ss) false f in
    both_false (any_label is_alias ss) (any_label is_alias (arguments ts)) p.0 (both_false (any_label is_alias ts) false h refl)
over_label (a_value b) ts f h = h
over_label (an_alias (alias_of.Ty i)) ts f h = cc f
over_label (an_alias (alias_of.Const i)) ts f h = cc f

pub plain_over : (c : Content) (F : Form) (ts : Tree) → deeply_resolved c (over F ts) ≡ over F (deeply_resolved c ts) → IsPlainIn c (over F ts) → (any_label is_alias (over F empty) ≡ false) × IsPlainIn c ts
plain_over c F ts e h =
    let x = label_over F (deeply_resolved c ts) (ap (any_label is_alias) (sym e) ∙ plain_rooted c (resolved c (over F ts)) ∙ h) in
    (x.0, sym (plain_rooted c (resolved c ts)) ∙ x.1)

pub over_plain : (c : Content) (F : Form) (ts : Tree) → deeply_resolved c (over F ts) ≡ over F (deeply_resolved c ts) → any_label is_alias (over F empty) ≡ false → IsPlainIn c ts → IsPlainIn c (over F ts)
over_plain c F ts e f h =
    sym (plain_rooted c (resolved c (over F ts))) ∙ ap (any_label is_alias) e ∙ over_label F (deeply_resolved c ts) f (plain_rooted c (resolved c ts) ∙ h)

-- an alias is none of them
alias_stands : (c : Content) (k : AliasHead) (ts : Tree) → IsPlainIn c (alias k ts) → ⊥
alias_stands c (alias_of.Ty i) ts h = (let z = sym (ap (any_label is_alias) (resolved-node c (label.Ty (ty.Alias i)) (arguments ts) refl)) ∙ h in cc z)
alias_stands c (alias_of.Const i) ts h = (let z = sym (ap (any_label is_alias) (resolved-node c (label.Const (konst.Unevaluated i)) (arguments ts) refl)) ∙ h in cc z)

pub plain_no_alias : (c : Content) (t : Tree) → IsPlainIn c t → IsAlias t → ⊥
plain_no_alias c t h a = alias_stands c a.head a.parts (ap (λ x. any_label is_alias (resolved c x)) (sym a.is) ∙ h)

-- pairs
pub plain_pairs : (c : Content) (v : Variance) (ws : List Variance) (ts us : Tree) → IsPlainIn c ts → IsPlainIn c us → ArePairsPlain c (pairs_over v ws ts us)
plain_pairs c v ws empty us h k = tt
plain_pairs c v ws (node l x) us h k = tt
plain_pairs c v ws (more a ts) empty h k = tt
plain_pairs c v ws (more a ts) (node l x) h k = tt
plain_pairs c v ws (more a ts) (more b us) h k =
    let x = more_plain c a ts h in
    let y = more_plain c b us k in
    ((x.0, y.0), plain_pairs c v (rest_variances ws) ts us x.1 y.1)

pub plain_joined : (c : Content) (ps qs : List Relating) → ArePairsPlain c ps → ArePairsPlain c qs → ArePairsPlain c (ps ++ qs)
plain_joined c [] qs h k = k
plain_joined c (p ∷ ps) qs h k = (h.0, plain_joined c ps qs h.1 k)

pub plain_parted : (c : Content) (ps qs : List Relating) → ArePairsPlain c (ps ++ qs) → ArePairsPlain c ps × ArePairsPlain c qs
plain_parted c [] qs h = (tt, h)
plain_parted c (p ∷ ps) qs h = (let x = plain_parted c ps qs h.1 in ((h.0, x.0), x.1))

-- steps
pub entering_plain : (c : Content) (v : Variance) (ws : List Variance) (q : Bool) (ts : Tree) (xs : List WalkStep) → IsPlainIn c ts → AreStepsPlain c xs → AreStepsPlain c (entering v ws q ts xs)
entering_plain c v ws q empty xs h k = k
entering_plain c v ws q (node l x) xs h k = k
entering_plain c v ws q (more t ts) xs h k = (let x = more_plain c t ts h in (x.0, entering_plain c v (rest_variances ws) q ts xs x.1 k))

pub popped_plain : (c : Content) (rs : Tree) (ss : List Tree) → IsRow rs → AreTreesPlain c (pushed rs ss) → IsPlainIn c rs × AreTreesPlain c ss
popped_plain c empty ss row h = (plain_empty c, h)
popped_plain c (more r rs) ss row h = (let x = popped_plain c rs (r ∷ ss) row h in let y = x.1 in (plain_more c r rs y.0 x.0, y.1))
popped_plain c (node l x) ss row h = absurd row

-- in later tables
pub keeps_same : (c d : Content) → ((t : Tree) → Knows c t → resolved d t ≡ resolved c t) → KeepsPlain c d
keeps_same c d same = record { plain = λ t k h. ap (any_label is_alias) (same t k) ∙ h }

pub stays_none : (c : Content) → StaysPlain c c
stays_none c = record { keeps = keeps_same c c (λ t k. refl); founds = founds_none c }

pub stays_then : (c d e : Content) → IsTableGrown c d → IsTableGrown d e → Continues d e → StaysPlain c d → StaysPlain d e → StaysPlain c e
stays_then c d e first g on a b =
    record {
      keeps = record { plain = λ t k h. (let x = a.keeps in let y = b.keeps in y.plain t (Knows-grown t first k) (x.plain t k h)) };
      founds = founds_then c d e first g on a.founds b.founds;
    }

pub steps_stay : (c d : Content) (xs : List WalkStep) → KeepsPlain c d → KnowsSteps c xs → AreStepsPlain c xs → AreStepsPlain d xs
steps_stay c d [] keeps k h = tt
steps_stay c d (enter v q t ∷ xs) keeps k h = (keeps.plain t k.0 h.0, steps_stay c d xs keeps k.1 h.1)
steps_stay c d (build F n ∷ xs) keeps k h = (h.0, steps_stay c d xs keeps k.1 h.1)
steps_stay c d (owe v t ∷ xs) keeps k h = steps_stay c d xs keeps k.1 h

pub trees_stay : (c d : Content) (ts : List Tree) → KeepsPlain c d → KnowsTrees c ts → AreTreesPlain c ts → AreTreesPlain d ts
trees_stay c d [] keeps k h = tt
trees_stay c d (t ∷ ts) keeps k h = (keeps.plain t k.0 h.0, trees_stay c d ts keeps k.1 h.1)

pub pairs_stay : (c d : Content) (ps : List Relating) → KeepsPlain c d → ArePairsKnown c ps → ArePairsPlain c ps → ArePairsPlain d ps
pairs_stay c d [] keeps k h = tt
pairs_stay c d (p ∷ ps) keeps k h = ((keeps.plain p.left k.0 h.0.0, keeps.plain p.right k.1 h.0.1), pairs_stay c d ps keeps k.2 h.1)
