-- Folders that answer each term by an image of it.
use Rattle.std.specs.Prelude.{◌≡◌, Option, Some}
use Rattle.nts_model.specs.Terms.Trees.{Tree}

-- for a tree that is P in this state the answer is its image f, and the state goes on by g
abbrev pub AnswersImage : {S : Type 0} → (S → Tree → Type 0) → (S → Tree → Tree) → (S → Tree → S) → S → Tree → Option Tree → S → Type 0
AnswersImage P f g s x o t = P s x → (o ≡ Some (f s x)) × (t ≡ g s x)

-- each tree; and the state stays
abbrev pub IsAny : {S : Type 0} → S → Tree → Type 0
IsAny s x = Unit {0}

abbrev pub itself : {S : Type 0} → S → Tree → Tree
itself s x = x

abbrev pub same_state : {S : Type 0} → S → Tree → S
same_state s x = s
