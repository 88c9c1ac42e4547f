-- Terms that are still to be printed.
use Rattle.std.specs.Prelude.{◌≡◌, ℕ, List, [], ◌∷◌, ◌++◌, Option, None, Some, map, codes}
use Rattle.std.specs.Io.KnownBytes.{Appends}
use Rattle.std.specs.Global.{Vec}
use Rattle.nts_store.specs.Growth.{tree_at}
use Rattle.nts_store.specs.declared.nodes.NodeId.{NodeId}
use Rattle.nts_model.specs.Terms.Trees.{Tree}
use Rattle.nts_wording.specs.declared.printer.Piece.{Piece}
use Rattle.nts_wording.specs.declared.printer.Piece.TheVariants as pieces
use Rattle.nts_wording.specs.declared.printer.Printer.{Printer}
use Rattle.nts_wording.specs.Printing.{Lexicon, Seen, IsText, in_brackets}

-- the names of terms, in order
abbrev pub names_in : List (NodeId × Vec ℕ) → List (NodeId × List ℕ)
names_in entries = map (λ e. (e.0, e.1.items)) entries

-- what a printer prints with
abbrev pub lexicon_of : Printer → Lexicon
lexicon_of p = record {
  trees = p.nodes.now;
  types = p.names.now.types.items;
  aliases = p.names.now.aliases.items;
  parameters = p.scope.now.parameters;
  variables = names_in p.known.entries;
}

abbrev pub seen_by : Printer → Seen
seen_by p = record { types = p.types.keys; regions = p.regions.keys }

-- the text grows by these bytes, and the rest of what is printed with stays
pub record Writes (old new : Printer) (text : List ℕ) : Type 0 where
  pub grows : new.text.items ≡ old.text.items ++ text
  pub same : lexicon_of new ≡ lexicon_of old

-- some text is written, of which this holds with what was seen before and after
abbrev pub WritesText : Printer → Printer → (Seen → List ℕ → Seen → Type 0) → Type 0
WritesText old new P = (text : List ℕ) × Writes old new text × P (seen_by old) text (seen_by new)

-- the bytes that went out, and those that the printer still holds
abbrev pub told_so_far : Option (List ℕ) → Printer → Option (List ℕ)
told_so_far None p = None
told_so_far (Some bs) p = Some (bs ++ p.text.items)

-- these bytes go out or are held, behind what went out and was held before, and the rest of what is printed with stays
pub record Puts (a b : Option (List ℕ)) (old new : Printer) (text : List ℕ) : Type 0 where
  pub grows : Appends (told_so_far a old) (told_so_far b new) text
  pub same : lexicon_of new ≡ lexicon_of old

-- .. of which this holds with what was seen before and after
abbrev pub PutsText : Option (List ℕ) → Option (List ℕ) → Printer → Printer → (Seen → List ℕ → Seen → Type 0) → Type 0
PutsText a b old new P = (text : List ℕ) × Puts a b old new text × P (seen_by old) text (seen_by new)

-- the text of pieces, one behind the other
abbrev pub ArePrinted : Lexicon → Seen → List Piece → List ℕ → Seen → Type 0
ArePrinted n old [] text new = (text ≡ []) × (new ≡ old)
ArePrinted n old (pieces.Term t ∷ ps) text new =
    (x y : List ℕ) × (between : Seen) × IsText n old (tree_at n.trees t) x between × ArePrinted n between ps y new × (text ≡ x ++ y)
ArePrinted n old (pieces.Comma ∷ ps) text new = (y : List ℕ) × ArePrinted n old ps y new × (text ≡ codes ", " ++ y)
ArePrinted n old (pieces.Close ∷ ps) text new = (y : List ℕ) × ArePrinted n old ps y new × (text ≡ codes ")" ++ y)

-- what is printed of the pieces that are left completes what was to be printed of those before
abbrev pub Completes : Lexicon → Seen → List Piece → List ℕ → Seen → List Piece → Type 0
Completes n old ps text between qs =
    (rest : List ℕ) (new : Seen) → ArePrinted n between qs rest new → ArePrinted n old ps (text ++ rest) new

-- the bracket that is printed, and what the pieces in front of the older ones print, are these
-- arguments
abbrev pub Opens : Lexicon → Seen → Tree → List Piece → List ℕ → Seen → List Piece → Type 0
Opens n old row ps text between qs =
    (rest : List ℕ) (new : Seen) → ArePrinted n between qs rest new
    → (x y : List ℕ) × (middle : Seen) × IsText n old row x middle × ArePrinted n middle ps y new × (text ++ rest ≡ in_brackets row x ++ y)
