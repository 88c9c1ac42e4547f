-- Two inputs have equal canonical forms exactly if they are alike, and its originals give an input back.
use Rattle.std.proofs.Common.{◌≡◌, Bool, true, false, List, [], map, inl, inr, refl, sym, ap, subst, ◌∙◌}
use Rattle.nts_model.specs.declared.labels.FreeRegion.TheVariants as region
use Rattle.nts_model.specs.declared.labels.Leaf.{Leaf}
use Rattle.nts_model.specs.declared.labels.Leaf.TheVariants as leaf
use Rattle.nts_model.specs.Terms.Trees.{Tree, empty, more, IsFormed, sort_of_leaf}
use Rattle.nts_model.specs.Terms.Substitutions.{leaf_tree, replace, Renaming, rename, filled}
use Rattle.nts_model.specs.Lists.{Among}
use Rattle.nts_model.specs.Canonical.Numbered.{number, seen, numbered, numbered_leaf, position, no_leaf, AreDistinct}
use Rattle.nts_model.specs.Canonical.Inputs.{Input, CanonicalInput, canonical_of, is_static, after_environment, after_predicate, originals, position_kind, label_or_leaf, OccursIn, Renames, IsInput, FormsTellInputs, OriginalsGiveInput, OriginalsAreLeaves, made_of, MakingGivesForm}
use Rattle.nts_model.proofs.Terms.Substituting.{replace-replace, replace-leaf}
use Rattle.nts_model.proofs.Terms.Listed.{either, original, number-map, among-map}
use Rattle.nts_model.proofs.Canonical.Numbering.{AllLeaves-map, replace-agree, replace-tells, HasNoPositions, first_none, rest_none, filled-replace, Extends, extends-self, extends-trans, extends-seen, distinct-seen, IsSeen, all-seen, numbered-replace, filled-numbered}
use Rattle.nts_model.proofs.Canonical.Moving.{moved, moved_leaf, moved_tree, Keeps, IsMap, seen-moved, numbered-moved, MapsTree, StaysAlone, maps_tree, maps_tree-back, among-seen, occurs-seen}
use Rattle.nts_model.proofs.Terms.Renamings.{extension, renaming-injective, map-forward}
use Rattle.nts_model.proofs.Canonical.PositionKinds.{KeepsShares, same_sorts, kinds-moved, partition-kept}

static_alone : StaysAlone is_static (leaf.Region region.Static)
static_alone = record { alone = go }
  where
    go : (l : Leaf) → is_static l ≡ true → l ≡ leaf.Region region.Static
    go (leaf.Variable k n) e = cc
    go (leaf.Region region.Static) e = refl
    go (leaf.Region (region.EarlyParam n)) e = cc
    go (leaf.Region (region.LateParam n)) e = cc
    go (leaf.Region (region.Placeholder u n)) e = cc
    go (leaf.Region region.Erased) e = cc
    go (leaf.Region region.Error) e = cc
    go (leaf.TyConstant c) e = cc
    go (leaf.ConstConstant c) e = cc

none_alone : StaysAlone no_leaf (leaf.Region region.Static)
none_alone = record { alone = λ l e. absurd (let c : false ≡ true = e in cc) }

none_labelled : (t : Tree) → IsFormed t → replace (label_or_leaf no_leaf) t ≡ t
none_labelled t f = replace-leaf t f

-- the parts of an input
abbrev after_first : Input → Tree
after_first i = more i.predicate (more i.hidden empty)

no_positions-environment : (i : Input) → IsInput i → HasNoPositions i.environment
no_positions-environment i h = first_none i.environment (after_first i) h.no_positions

no_positions-rest : (i : Input) → IsInput i → HasNoPositions (after_first i)
no_positions-rest i h = rest_none i.environment (after_first i) h.no_positions

no_positions-predicate : (i : Input) → IsInput i → HasNoPositions i.predicate
no_positions-predicate i h = first_none i.predicate (more i.hidden empty) (no_positions-rest i h)

no_positions-hidden : (i : Input) → IsInput i → HasNoPositions i.hidden
no_positions-hidden i h = first_none i.hidden empty (rest_none i.predicate (more i.hidden empty) (no_positions-rest i h))

-- what was seen after a part stays seen
environment-extends : (i : Input) → Extends (after_environment i) (originals i)
environment-extends i = extends-trans (extends-seen no_leaf (after_environment i) i.predicate) (extends-seen no_leaf (after_predicate i) i.hidden)

predicate-extends : (i : Input) → Extends (after_predicate i) (originals i)
predicate-extends i = extends-seen no_leaf (after_predicate i) i.hidden

-- the originals in place of positions
pub originals_give_input : OriginalsGiveInput
originals_give_input i h =
    cc (
      filled-numbered is_static [] i.environment (originals i) h.formed.0 (no_positions-environment i h) (environment-extends i),
      filled-numbered no_leaf (after_environment i) i.predicate (originals i) h.formed.1.0 (no_positions-predicate i h) (predicate-extends i),
      filled-numbered no_leaf (after_predicate i) i.hidden (originals i) h.formed.1.1.0 (no_positions-hidden i h) (extends-self (originals i)),
    )

-- the originals are the leaves
pub distinct-originals : (i : Input) → AreDistinct (originals i)
distinct-originals i = distinct-seen no_leaf _ i.hidden (distinct-seen no_leaf _ i.predicate (distinct-seen is_static [] i.environment tt))

occurs-original : (i : Input) → IsInput i → (l : Leaf) → OccursIn l i → Among (originals i) l
occurs-original i h l (inl o) = (environment-extends i).within l (occurs-seen is_static [] i.environment l h.formed.0 o.0 o.1)
occurs-original i h l (inr (inl o)) = (predicate-extends i).within l (occurs-seen no_leaf (after_environment i) i.predicate l h.formed.1.0 refl o)
occurs-original i h l (inr (inr o)) = occurs-seen no_leaf (after_predicate i) i.hidden l h.formed.1.1.0 refl o

original-occurs : (i : Input) (l : Leaf) → Among (originals i) l → OccursIn l i
original-occurs i l h =
    elim (among-seen no_leaf (after_predicate i) i.hidden l h) [
      | inl a ↦ elim (among-seen no_leaf (after_environment i) i.predicate l a) [
        | inl b ↦ elim (among-seen is_static [] i.environment l b) [ inl c ↦ absurd c | inr o ↦ inl o ]
        | inr o ↦ inr (inl o.1)
      ]
      | inr o ↦ inr (inr o.1)
    ]

pub originals_are_leaves : OriginalsAreLeaves
originals_are_leaves i h = (distinct-originals i, λ l. (original-occurs i l, occurs-original i h l))

-- a renaming gives equal forms
map_of : (ρ : Renaming) → IsMap ρ.to
map_of ρ = record { injective = renaming-injective ρ; keeps_sorts = ρ.keeps_sorts }

pub record MapsInput (f : Leaf → Leaf) (a b : Input) : Type 0 where
  pub environment : MapsTree is_static f a.environment b.environment
  pub predicate : MapsTree no_leaf f a.predicate b.predicate
  pub hidden : MapsTree no_leaf f a.hidden b.hidden
  pub partition : KeepsShares f (originals a) a.sub_root b.sub_root

seen-image : (stays : Leaf → Bool) (f : Leaf → Leaf) → IsMap f → (s v : List Leaf) (t u : Tree) → MapsTree stays f t u → v ≡ map f s → seen stays v u ≡ map f (seen stays s t)
seen-image stays f j s v t u m e = ap (λ z. seen stays z u) e ∙ ap (seen stays (map f s)) m.image ∙ seen-moved stays f j s t m.keeps

numbered-image : (stays : Leaf → Bool) (f : Leaf → Leaf) → IsMap f → (s v : List Leaf) (t u : Tree) → MapsTree stays f t u → v ≡ map f s → numbered stays v u ≡ numbered stays s t
numbered-image stays f j s v t u m e = ap (λ z. numbered stays z u) e ∙ ap (numbered stays (map f s)) m.image ∙ numbered-moved stays f j s t m.keeps

equal_forms : (c d : CanonicalInput) → c.environment ≡ d.environment → c.predicate ≡ d.predicate → c.hidden ≡ d.hidden → c.kinds ≡ d.kinds → c ≡ d
equal_forms c d e p h k = λ j. record { environment = e j; predicate = p j; hidden = h j; kinds = k j }

pub forms_of_map : (f : Leaf → Leaf) → IsMap f → (a b : Input) → MapsInput f a b → canonical_of a ≡ canonical_of b
forms_of_map f j a b m =
    let e : after_environment b ≡ map f (after_environment a) = seen-image is_static f j [] [] a.environment b.environment m.environment refl in
    let p : after_predicate b ≡ map f (after_predicate a) = seen-image no_leaf f j (after_environment a) (after_environment b) a.predicate b.predicate m.predicate e in
    let h : originals b ≡ map f (originals a) = seen-image no_leaf f j (after_predicate a) (after_predicate b) a.hidden b.hidden m.hidden p in
    equal_forms (canonical_of a) (canonical_of b)
    (sym (numbered-image is_static f j [] [] a.environment b.environment m.environment refl))
    (sym (numbered-image no_leaf f j (after_environment a) (after_environment b) a.predicate b.predicate m.predicate e))
    (sym (numbered-image no_leaf f j (after_predicate a) (after_predicate b) a.hidden b.hidden m.hidden p))
    (sym (ap (λ z. map (position_kind b.sub_root z) z) h ∙ kinds-moved f j (originals a) a.sub_root b.sub_root m.partition))

-- equal forms give a renaming: b's tree is its form with b's originals, which is a's form with them
in_image : (stays : Leaf → Bool) (f : Leaf → Leaf) (s u : List Leaf) → u ≡ map f s → ((l : Leaf) → Among s l → number u (f l) ≡ number s l)
    → (l : Leaf) → IsSeen stays s l → filled (map leaf_tree u) (numbered_leaf stays s l) ≡ moved_leaf stays f l
in_image stays f s u e n l h =
    elim (either (stays l)) [
      | inl c ↦ rw c refl
      | inr c ↦ rw c (rw (← n l (h c)) (original u (f l) (subst (λ z. Among z (f l)) (sym e) (among-map f s l (h c)))))
    ]

keeps-number : (stays : Leaf → Bool) (f : Leaf → Leaf) (s u : List Leaf) (l : Leaf) → numbered_leaf stays u (moved stays f l) ≡ numbered_leaf stays s l → Keeps stays f l
keeps-number stays f s u l h = elim (either (stays l)) [ inl e ↦ rw e e | inr e ↦ rw e (go (rw e at h)) ]
  where
    go : numbered_leaf stays u (f l) ≡ position (sort_of_leaf l) (number s l) → stays (f l) ≡ false
    go g = elim (either (stays (f l))) [ inl d ↦ absurd (let c : leaf_tree (f l) ≡ position (sort_of_leaf l) (number s l) = rw d at g in cc) | inr d ↦ d ]

image_tree : (stays : Leaf → Bool) (f : Leaf → Leaf) (s u before : List Leaf) (t : Tree) → u ≡ map f s → ((l : Leaf) → Among s l → number u (f l) ≡ number s l)
    → Extends (seen stays before t) s → HasNoPositions t → filled (map leaf_tree u) (numbered stays before t) ≡ moved_tree stays f t
image_tree stays f s u before t e n x p =
    ap (filled (map leaf_tree u)) (numbered-replace stays before t s x)
    ∙ filled-replace (map leaf_tree u) (numbered_leaf stays s) t p
    ∙ replace-agree _ _ t (AllLeaves-map _ _ t (in_image stays f s u e n) (all-seen stays before t s x))

map_of_tree : (stays : Leaf → Bool) (f : Leaf → Leaf) (s u s' u' : List Leaf) (t t' : Tree) → u ≡ map f s → ((l : Leaf) → Among s l → number u (f l) ≡ number s l)
    → Extends (seen stays s' t) s → Extends (seen stays u' t') u → HasNoPositions t → HasNoPositions t' → IsFormed t' → numbered stays s' t ≡ numbered stays u' t' → MapsTree stays f t t'
map_of_tree stays f s u s' u' t t' e n x y p q formed h =
    let two : replace (numbered_leaf stays s) t ≡ replace (numbered_leaf stays u) t' = sym (numbered-replace stays s' t s x) ∙ h ∙ numbered-replace stays u' t' u y in
    let image : t' ≡ moved_tree stays f t = sym (filled-numbered stays u' t' u formed q y) ∙ ap (filled (map leaf_tree u)) (sym h) ∙ image_tree stays f s u s' t e n x p in
    let both : replace (λ l. numbered_leaf stays u (moved stays f l)) t ≡ replace (numbered_leaf stays s) t =
    sym (replace-replace (numbered_leaf stays u) (moved_leaf stays f) t) ∙ ap (replace (numbered_leaf stays u)) (sym image) ∙ sym two in
    record { image = image; keeps = AllLeaves-map _ _ t (keeps-number stays f s u) (replace-tells _ _ t both) }

pub map_of_forms : (a b : Input) → IsInput a → IsInput b → canonical_of a ≡ canonical_of b → (ρ : Renaming) × MapsInput ρ.to a b
map_of_forms a b p q h =
    let s = originals a in
    let u = originals b in
    let kinds : map (position_kind a.sub_root s) s ≡ map (position_kind b.sub_root u) u = ap (λ c. c.kinds) h in
    let sorts = same_sorts a.sub_root b.sub_root s u kinds in
    let ρ = extension s u sorts in
    let j = map_of ρ in
    let image : u ≡ map ρ.to s = sym (map-forward s u (distinct-originals a) (distinct-originals b) sorts) in
    let numbers : (l : Leaf) → Among s l → number u (ρ.to l) ≡ number s l = λ l i. ap (λ z. number z (ρ.to l)) image ∙ number-map ρ.to j.injective s l in (
      ρ,
      record {
        environment = map_of_tree is_static ρ.to s u [] [] a.environment b.environment image numbers (environment-extends a) (environment-extends b) (no_positions-environment a p) (no_positions-environment b q) q.formed.0 (ap (λ c. c.environment) h);
        predicate = map_of_tree no_leaf ρ.to s u (after_environment a) (after_environment b) a.predicate b.predicate image numbers (predicate-extends a) (predicate-extends b) (no_positions-predicate a p) (no_positions-predicate b q) q.formed.1.0 (ap (λ c. c.predicate) h);
        hidden = map_of_tree no_leaf ρ.to s u (after_predicate a) (after_predicate b) a.hidden b.hidden image numbers (extends-self s) (extends-self u) (no_positions-hidden a p) (no_positions-hidden b q) q.formed.1.1.0 (ap (λ c. c.hidden) h);
        partition = partition-kept ρ.to j s a.sub_root b.sub_root (ap (λ z. map (position_kind b.sub_root z) z) (sym image) ∙ sym kinds);
      },
    )

-- the two ways to say that a renaming maps one input to the other
maps_plain : (ρ : Renaming) (t u : Tree) → IsFormed t → IsFormed u → HasNoPositions t → HasNoPositions u → rename ρ t ≡ u → MapsTree no_leaf ρ.to t u
maps_plain ρ t u f g p q e = maps_tree no_leaf (leaf.Region region.Static) ρ.to t u none_alone p q g (ap (rename ρ) (none_labelled t f) ∙ e ∙ sym (none_labelled u g))

plain_maps : (ρ : Renaming) (t u : Tree) → IsFormed t → IsFormed u → MapsTree no_leaf ρ.to t u → rename ρ t ≡ u
plain_maps ρ t u f g m = ap (rename ρ) (sym (none_labelled t f)) ∙ maps_tree-back no_leaf ρ.to t u m ∙ none_labelled u g

input_maps : (ρ : Renaming) (a b : Input) → IsInput a → IsInput b → Renames ρ a b → MapsInput ρ.to a b
input_maps ρ a b p q m =
    record {
      environment = maps_tree is_static (leaf.Region region.Static) ρ.to a.environment b.environment static_alone (no_positions-environment a p) (no_positions-environment b q) q.formed.0 m.environment;
      predicate = maps_plain ρ a.predicate b.predicate p.formed.1.0 q.formed.1.0 (no_positions-predicate a p) (no_positions-predicate b q) m.predicate;
      hidden = maps_plain ρ a.hidden b.hidden p.formed.1.1.0 q.formed.1.1.0 (no_positions-hidden a p) (no_positions-hidden b q) m.hidden;
      partition = record { kept = λ l n i h. m.partition l n (original-occurs a l i) (original-occurs a n h) };
    }

maps_input : (ρ : Renaming) (a b : Input) → IsInput a → IsInput b → MapsInput ρ.to a b → Renames ρ a b
maps_input ρ a b p q m =
    record {
      environment = maps_tree-back is_static ρ.to a.environment b.environment m.environment;
      predicate = plain_maps ρ a.predicate b.predicate p.formed.1.0 q.formed.1.0 m.predicate;
      hidden = plain_maps ρ a.hidden b.hidden p.formed.1.1.0 q.formed.1.1.0 m.hidden;
      partition = λ l n i h. m.partition.kept l n (occurs-original a p l i) (occurs-original a p n h);
    }

pub forms_tell_inputs : FormsTellInputs
forms_tell_inputs a b p q = (
  (λ h. let m = map_of_forms a b p q h in (m.0, maps_input m.0 a b p q m.1)),
  (λ m. forms_of_map m.0.to (map_of m.0) a b (input_maps m.0 a b p q m.1)),
)

-- leaves of a form's kinds are the images of the originals
apart-keeps : (stays : Leaf → Bool) (f : Leaf → Leaf) (s : List Leaf) → ((l : Leaf) → Among (map f s) l → stays l ≡ false) → (l : Leaf) → IsSeen stays s l → Keeps stays f l
apart-keeps stays f s a l h = elim (either (stays l)) [ inl e ↦ rw e e | inr e ↦ rw e (a (f l) (among-map f s l (h e))) ]

pub making_gives_form : MakingGivesForm
making_gives_form i u r p m =
    let s = originals i in
    let kinds : map (position_kind i.sub_root s) s ≡ map (position_kind r u) u = sym m.kinds in
    let sorts = same_sorts i.sub_root r s u kinds in
    let ρ = extension s u sorts in
    let j = map_of ρ in
    let image : u ≡ map ρ.to s = sym (map-forward s u (distinct-originals i) m.distinct sorts) in
    let numbers : (l : Leaf) → Among s l → number u (ρ.to l) ≡ number s l = λ l h. ap (λ z. number z (ρ.to l)) image ∙ number-map ρ.to j.injective s l in
    let apart : (l : Leaf) → Among (map ρ.to s) l → is_static l ≡ false = λ l h. m.no_static l (subst (λ z. Among z l) (sym image) h) in
    sym (forms_of_map ρ.to j i (made_of (canonical_of i) u r) (record {
      environment = record {
        image = image_tree is_static ρ.to s u [] i.environment image numbers (environment-extends i) (no_positions-environment i p);
        keeps = AllLeaves-map _ _ i.environment (apart-keeps is_static ρ.to s apart) (all-seen is_static [] i.environment s (environment-extends i));
      };
      predicate = record {
        image = image_tree no_leaf ρ.to s u (after_environment i) i.predicate image numbers (predicate-extends i) (no_positions-predicate i p);
        keeps = AllLeaves-map _ _ i.predicate (apart-keeps no_leaf ρ.to s (λ l h. refl)) (all-seen no_leaf (after_environment i) i.predicate s (predicate-extends i));
      };
      hidden = record {
        image = image_tree no_leaf ρ.to s u (after_predicate i) i.hidden image numbers (extends-self s) (no_positions-hidden i p);
        keeps = AllLeaves-map _ _ i.hidden (apart-keeps no_leaf ρ.to s (λ l h. refl)) (all-seen no_leaf (after_predicate i) i.hidden s (extends-self s));
      };
      partition = partition-kept ρ.to j s i.sub_root r (ap (λ z. map (position_kind r z) z) (sym image) ∙ sym kinds);
    }))
