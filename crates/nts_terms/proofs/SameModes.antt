-- `==` on typing modes is equality of what they are in the model.
use Rattle.std.proofs.Common.{rules, ◌≡◌, ◌↔◌, Bool, true, false, ℕ, List, [], ◌∷◌, ap, refl, subst}
use Rattle.std.specs.Prelude.{IsTrue}
use lib.Pointwise.{pointwise}
use Rattle.nts_model.specs.Derivations.Rules.{Mode, coherence, post_analysis, erased, analysis, borrowck, post_borrowck}
use Rattle.nts_terms.specs.declared.handles.AliasId.{AliasId}
use Rattle.nts_terms.specs.contracts.handles.AliasIdPartialEq.TheImpl as id_eq
use Rattle.nts_terms.specs.declared.modes.TypingMode.{TypingMode}
use Rattle.nts_terms.specs.declared.modes.TypingMode.TheVariants as mode
use Rattle.nts_terms.specs.contracts.modes.TypingModePartialEq.TheImpl as mode_eq
use Rattle.nts_terms.specs.Modes.{numbers_of, mode_of}
use Rattle.nts_store.specs.Equal.{both_true}

same_alias : (a b : AliasId) → IsTrue (id_eq.ghosts.eq a b) ↔ (a.number ≡ b.number)
same_alias a b = search rules

same_aliases : (a b : List AliasId) → IsTrue (pointwise id_eq.ghosts.eq a b) ↔ (numbers_of a ≡ numbers_of b)
same_aliases [] [] = ((λ _. refl), λ _. refl)
same_aliases [] (y ∷ ys) = ((λ f. cc), λ e. cc)
same_aliases (x ∷ xs) [] = ((λ f. cc), λ e. cc)
same_aliases (x ∷ xs) (y ∷ ys) =
    let b = both_true _ _ _ _ (same_alias x y) (same_aliases xs ys) in
    ((λ f. let w = b.0 f in cc (w.0, w.1)), λ e. let h : x.number ≡ y.number = cc in let t : numbers_of xs ≡ numbers_of ys = cc in b.1 (h, t))

listed : (f : List ℕ → Mode) (a b : List AliasId) → (numbers_of a ≡ numbers_of b ↔ f (numbers_of a) ≡ f (numbers_of b)) → IsTrue (pointwise id_eq.ghosts.eq a b) ↔ (f (numbers_of a) ≡ f (numbers_of b))
listed f a b h = let s = same_aliases a b in ((λ t. h.0 (s.0 t)), λ e. s.1 (h.1 e))

-- modes of one kind
abbrev same_kind : Mode → Mode → Bool
same_kind coherence coherence = true
same_kind (analysis a) (analysis b) = true
same_kind (borrowck a) (borrowck b) = true
same_kind (post_borrowck a) (post_borrowck b) = true
same_kind post_analysis post_analysis = true
same_kind erased erased = true
same_kind _ _ = false

own_kind : (m : Mode) → same_kind m m ≡ true
own_kind coherence = refl
own_kind (analysis a) = refl
own_kind (borrowck a) = refl
own_kind (post_borrowck a) = refl
own_kind post_analysis = refl
own_kind erased = refl

-- modes of two kinds are not equal
differ : (m n : Mode) → same_kind m n ≡ false → IsTrue false ↔ (m ≡ n)
differ m n d = ((λ f. cc), λ e. let same : same_kind m n ≡ true = subst (λ x. same_kind m x ≡ true) e (own_kind m) in cc)

pub same_mode : (a b : TypingMode) → IsTrue (mode_eq.ghosts.eq a b) ↔ (mode_of a ≡ mode_of b)
same_mode mode.Coherence mode.Coherence = ((λ _. refl), λ _. refl)
same_mode mode.Coherence (mode.Analysis ys) = differ _ _ refl
same_mode mode.Coherence (mode.Borrowck ys) = differ _ _ refl
same_mode mode.Coherence (mode.PostBorrowckAnalysis ys) = differ _ _ refl
same_mode mode.Coherence mode.PostAnalysis = differ _ _ refl
same_mode mode.Coherence mode.ErasedNotCoherence = differ _ _ refl
same_mode (mode.Analysis xs) mode.Coherence = differ _ _ refl
same_mode (mode.Analysis xs) (mode.Analysis ys) = listed analysis xs.items ys.items ((λ e. ap analysis e), λ e. cc)
same_mode (mode.Analysis xs) (mode.Borrowck ys) = differ _ _ refl
same_mode (mode.Analysis xs) (mode.PostBorrowckAnalysis ys) = differ _ _ refl
same_mode (mode.Analysis xs) mode.PostAnalysis = differ _ _ refl
same_mode (mode.Analysis xs) mode.ErasedNotCoherence = differ _ _ refl
same_mode (mode.Borrowck xs) mode.Coherence = differ _ _ refl
same_mode (mode.Borrowck xs) (mode.Analysis ys) = differ _ _ refl
same_mode (mode.Borrowck xs) (mode.Borrowck ys) = listed borrowck xs.items ys.items ((λ e. ap borrowck e), λ e. cc)
same_mode (mode.Borrowck xs) (mode.PostBorrowckAnalysis ys) = differ _ _ refl
same_mode (mode.Borrowck xs) mode.PostAnalysis = differ _ _ refl
same_mode (mode.Borrowck xs) mode.ErasedNotCoherence = differ _ _ refl
same_mode (mode.PostBorrowckAnalysis xs) mode.Coherence = differ _ _ refl
same_mode (mode.PostBorrowckAnalysis xs) (mode.Analysis ys) = differ _ _ refl
same_mode (mode.PostBorrowckAnalysis xs) (mode.Borrowck ys) = differ _ _ refl
same_mode (mode.PostBorrowckAnalysis xs) (mode.PostBorrowckAnalysis ys) = listed post_borrowck xs.items ys.items ((λ e. ap post_borrowck e), λ e. cc)
same_mode (mode.PostBorrowckAnalysis xs) mode.PostAnalysis = differ _ _ refl
same_mode (mode.PostBorrowckAnalysis xs) mode.ErasedNotCoherence = differ _ _ refl
same_mode mode.PostAnalysis mode.Coherence = differ _ _ refl
same_mode mode.PostAnalysis (mode.Analysis ys) = differ _ _ refl
same_mode mode.PostAnalysis (mode.Borrowck ys) = differ _ _ refl
same_mode mode.PostAnalysis (mode.PostBorrowckAnalysis ys) = differ _ _ refl
same_mode mode.PostAnalysis mode.PostAnalysis = ((λ _. refl), λ _. refl)
same_mode mode.PostAnalysis mode.ErasedNotCoherence = differ _ _ refl
same_mode mode.ErasedNotCoherence mode.Coherence = differ _ _ refl
same_mode mode.ErasedNotCoherence (mode.Analysis ys) = differ _ _ refl
same_mode mode.ErasedNotCoherence (mode.Borrowck ys) = differ _ _ refl
same_mode mode.ErasedNotCoherence (mode.PostBorrowckAnalysis ys) = differ _ _ refl
same_mode mode.ErasedNotCoherence mode.PostAnalysis = differ _ _ refl
same_mode mode.ErasedNotCoherence mode.ErasedNotCoherence = ((λ _. refl), λ _. refl)
