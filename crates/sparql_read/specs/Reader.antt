-- What the reader has of a text.
use Rattle.std.specs.Prelude.{◌≡◌, ◌≤◌, ◌+◌, ◌*◌, ℕ, Bool, true, false, Option, Some, None, List, [], ◌∷◌, ◌++◌, length}
use Rattle.std.specs.List.{list_all}
use Rattle.token_text.specs.Tokens.{HasTokens}
use Rattle.token_text.proofs.TokenLemmas.{Lexed}
use Rattle.sparql_read.specs.Tokens.{Token, Word, Mark, IriRef, Prefix, first}
use Rattle.sparql_read.specs.Grammar.{Pattern, Asked}
use Rattle.sparql_read.specs.Layout.{Lists, laid_out}
use Rattle.sparql_read.specs.Text.{has_all, IsSparql}
use Rattle.sparql_read.specs.TextMachine as spots
use Rattle.sparql_read.specs.TextMachine.{part, checked}
use Rattle.sparql_read.specs.Query.{lists_view, AreFew}
use Rattle.sparql_read.specs.Places.{RestIs, IsAt}
use Rattle.sparql_read.specs.declared.places.Parts.{Parts}
use Rattle.sparql_read.specs.declared.places.Place.{Place}
use denote.Ref.{Bor}

-- the mark that three tokens declare
abbrev pub head_mark : Token → Token → Token → Option (List ℕ)
head_mark (Word Prefix) (Mark mark) (IriRef iri) = Some mark
head_mark one two three = None

-- the bytes of a name that may be missing
abbrev pub name_option : Option (Bor (List ℕ)) → Option (List ℕ)
name_option None = None
name_option (Some name) = Some name.now

-- no token stands first
abbrev pub NoToken : List ℕ → Type 0
NoToken bytes = (t : Token) (us : List Token) → HasTokens first bytes (t ∷ us) → ⊥

-- the text begins with the declaration of a mark
abbrev pub HeadIs : List ℕ → List ℕ → List ℕ → Type 0
HeadIs bytes mark rest = (iri : List ℕ) × Lexed first bytes (Word Prefix ∷ Mark mark ∷ IriRef iri ∷ []) rest × (length rest ≤ length bytes)

-- it does not
abbrev pub NoHead : List ℕ → Type 0
NoHead bytes = (mark iri : List ℕ) (us : List Token) → HasTokens first bytes (Word Prefix ∷ Mark mark ∷ IriRef iri ∷ us) → ⊥

-- no text with this mark goes on so
abbrev pub NoBody : List ℕ → List ℕ → Type 0
NoBody mark bytes = (ts : List Token) (q : Asked) → HasTokens first bytes ts → checked mark ts spots.AtForm ≡ Some q → ⊥

-- the lists as those of a query
abbrev pub parts_view : Parts → Lists
parts_view l = lists_view l.heads.items l.groups.items l.patterns.items l.paths.items

-- a text with this mark goes on so, and the lists hold what it asks
pub record BodyIs (mark bytes : List ℕ) (l : Parts) : Type 0 where
  pub tokens : List Token
  pub asked : Asked
  pub cut : HasTokens first bytes tokens
  pub read : checked mark tokens spots.AtForm ≡ Some asked
  pub lists : parts_view l ≡ laid_out asked
  pub all_occur : l.all_occur ≡ list_all (has_all asked.heads) asked.groups
  pub few_groups : length l.groups.items ≤ 16777216
  pub few_patterns : length l.patterns.items ≤ 16777216
  pub few_tokens : length tokens ≤ 16777216

-- the lists hold what the text asks
pub record PartsAsk (bytes : List ℕ) (l : Parts) : Type 0 where
  pub asked : Asked
  pub is : IsSparql bytes asked
  pub lists : parts_view l ≡ laid_out asked
  pub few : AreFew (parts_view l)

-- a text may end at a place, or not
abbrev pub EndIs : Bool → Parts → spots.Place → Type 0
EndIs true l s = (heads : List (List ℕ)) × (gs : List (List Pattern)) × (s ≡ spots.AtEnd heads gs) × RestIs l (part heads gs l.braced)
EndIs false l s = spots.finish s ≡ None

-- after some tokens of the text
pub record Reading (mark text rest : List ℕ) (l : Parts) (place : Place) : Type 0 where
  pub front : List Token
  pub spot : spots.Place
  pub lexed : Lexed first text front rest
  pub run : (more : List Token) → checked mark (front ++ more) spots.AtForm ≡ checked mark more spot
  pub here : IsAt l place spot
  pub paths : length l.paths.items + 3 * length rest ≤ 50331648
  pub patterns : length l.patterns.items + length rest ≤ 16777216
  pub groups : length l.groups.items + length rest ≤ 16777216
  pub first_within : l.first ≤ length l.patterns.items
  pub tokens : length front + length rest ≤ 16777216
