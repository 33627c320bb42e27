-- Lines that may stand one after another and break no rule, and the verdict of their text.
use Rattle.std.proofs.Common.{◌≡◌, ℕ, ◌+◌, Bool, true, false, not, ◌||◌, ◌==◌, if◌then◌else◌, Option, Some, None, Ok, Err, List, [], ◌∷◌, ◌++◌, length, map, refl, sym, ap, subst, ◌∙◌, arith, true≢false}
use Rattle.std.specs.Prelude.{⊤, IfSome, is_some}
use Rattle.std.specs.List.{list_all, slice_split, join_with_byte, flat_map}
use Rattle.std.proofs.lemmas.Bool.{and_parts, ne_eqb}
use Rattle.std.proofs.lemmas.List.{append_assoc, append-nil}
use Rattle.std.proofs.lemmas.List.Folds.{flat_map-map}
use Rattle.std.proofs.lemmas.List.Splits.{slice_split_at, join_with_byte-slice_split}
use Rattle.gm_text.specs.Lines.{is_byte, lines_of_parts, lines_of}
use Rattle.gm_text.proofs.LinesLemmas.{lines_of-cut}
use Rattle.query_terms.proofs.SpanLemmas.{list_all_more}
use Rattle.workload_text.specs.declared.sorts.Sort.{Sort}
use Rattle.workload_text.specs.declared.sorts.Sort.TheVariants.{First, Label, NodeType, Edge, Query, Rule, Conjunct, End}
use Rattle.workload_text.specs.Values.{WorkValue}
use Rattle.workload_text.specs.Lines.{WorkLine, line_words, line_bytes, is_line, lines_text}
use Rattle.workload_text.specs.Lines.WorkLine.{FirstLine, LabelLine, TypeLine, EdgeLine, QueryLine, RuleLine, ConjunctLine, EndLine}
use Rattle.workload_text.specs.Forms.{first_of, sort_of}
use Rattle.workload_text.specs.Sofar.{Sofar, after, after_conjunct, value_of}
use Rattle.workload_text.specs.Rules.{TextLine, Verdict, sort_of_line, said, follows, may_follow, heads_occur, goes_on, after_end, of_said, in_limits, has_chains, has_same_ends, has_returning_words, rule_1, rule_2, rule_3, rule_4, rule_5, rule_6, rule_7, rule_8, rule_9, broken, broken_by_line, after_line, after_said, verdict, unless_broken}
use Rattle.workload_text.proofs.LineLemmas.{W, is_word_byte, Lacks-from, list_all-join, line-words, words_of-line, line_of-line, line_of-bytes}

-- the line of a text that a line is
abbrev pub text_line : WorkLine → TextLine
text_line line = (line_bytes line, true)

-- each line may stand where it does and breaks no rule
abbrev pub Passes : Sofar → List WorkLine → Type 0
Passes s [] = ⊤
Passes s (line ∷ lines) = (is_line s.head.format line ≡ true) × (broken s (text_line line) ≡ None) × Passes (after s line) lines

-- with all lines more
abbrev pub after_all : Sofar → List WorkLine → Sofar
after_all s [] = s
after_all s (line ∷ lines) = after_all (after s line) lines

pub Passes-append : (s : Sofar) (xs ys : List WorkLine) → Passes s xs → Passes (after_all s xs) ys → Passes s (xs ++ ys)
Passes-append s [] ys first others = others
Passes-append s (x ∷ xs) ys (is, ok, rest) others = (is, ok, Passes-append (after s x) xs ys rest others)

pub after_all-append : (s : Sofar) (xs ys : List WorkLine) → after_all s (xs ++ ys) ≡ after_all (after_all s xs) ys
after_all-append s [] ys = refl
after_all-append s (x ∷ xs) ys = after_all-append (after s x) xs ys

-- ---- the text of lines has these lines

abbrev not_end : ℕ → Bool
not_end x = not (x == 10)

line-ends : (format : ℕ) (line : WorkLine) → is_line format line ≡ true → list_all not_end (line_bytes line) ≡ true
line-ends format line is =
    list_all-join not_end 32 refl (line_words line)
    (list_all_more W (list_all not_end) (line_words line) (λ w ok. list_all_more is_word_byte not_end w (λ x byte. (and_parts (not (x == 32)) (not (x == 10)) byte).1) ok)
    (line-words format line is))

lines_of-line : (format : ℕ) (line : WorkLine) (text : List ℕ) → is_line format line ≡ true → lines_of ((line_bytes line ++ 10 ∷ []) ++ text) ≡ text_line line ∷ lines_of text
lines_of-line format line text is =
    lines_of-cut ((line_bytes line ++ 10 ∷ []) ++ text) (line_bytes line) text
    (ap (slice_split (is_byte 10)) (append_assoc (line_bytes line) (10 ∷ []) text)
    ∙ slice_split_at (is_byte 10) (line_bytes line) 10 text (Lacks-from not_end 10 refl (line_bytes line) (line-ends format line is)) refl)

pub lines_of-lines_text : (s : Sofar) (lines : List WorkLine) → Passes s lines → lines_of (lines_text lines) ≡ map text_line lines
lines_of-lines_text s [] passes = refl
lines_of-lines_text s (line ∷ lines) (is, ok, rest) =
    lines_of-line s.head.format line (lines_text lines) is ∙ ap (λ ls. text_line line ∷ ls) (lines_of-lines_text (after s line) lines rest)

-- ---- the verdict of lines that pass

pub verdict-passes : (s : Sofar) (n : ℕ) (lines : List WorkLine) → Passes s lines → after_end (after_all s lines).last ≡ true
    → verdict s n (map text_line lines) ≡ Ok (value_of (after_all s lines))
verdict-passes s n [] passes ended = rw ended refl
verdict-passes s n (line ∷ lines) (is, ok, rest) ended =
    let said : after_line s (text_line line) ≡ after s line = ap (after_said s) (line_of-line s.head.format line is) in
    ap (λ b. unless_broken n b (verdict (after_line s (text_line line)) (n + 1) (map text_line lines))) ok
    ∙ ap (λ r. verdict r (n + 1) (map text_line lines)) said
    ∙ verdict-passes (after s line) (n + 1) lines rest ended

-- ---- what a line that has its form has to show

-- the sort of a line
abbrev pub sort_line : WorkLine → Sort
sort_line (FirstLine own) = First
sort_line (LabelLine name) = Label
sort_line (TypeLine name kind) = NodeType
sort_line (EdgeLine source label target op) = Edge
sort_line (QueryLine number asked) = Query
sort_line (RuleLine heads) = Rule
sort_line (ConjunctLine src trg star words) = Conjunct
sort_line EndLine = End

sort_of-words : (line : WorkLine) → sort_of (first_of (line_words line)) ≡ Some (sort_line line)
sort_of-words (FirstLine own) = refl
sort_of-words (LabelLine name) = refl
sort_of-words (TypeLine name kind) = refl
sort_of-words (EdgeLine source label target op) = refl
sort_of-words (QueryLine number asked) = refl
sort_of-words (RuleLine heads) = refl
sort_of-words (ConjunctLine src trg star words) = refl
sort_of-words EndLine = refl

pub sort_of-line : (format : ℕ) (line : WorkLine) → is_line format line ≡ true → sort_of_line (text_line line) ≡ Some (sort_line line)
sort_of-line format line is = ap (λ ws. sort_of (first_of ws)) (words_of-line format line is) ∙ sort_of-words line

-- a line that has its form breaks the rule that what it says breaks, where the rules asked before are kept
pub broken-late : (s : Sofar) (line : WorkLine) → is_line s.head.format line ≡ true → after_end s.last ≡ false → follows s.last (sort_line line) ≡ true
    → (not (after_conjunct s.last) || goes_on (Some (sort_line line)) || heads_occur s) ≡ true → broken s (text_line line) ≡ broken_by_line s line
broken-late s line is going stands closes =
    rw (line_of-line s.head.format line is, going, sort_of-line s.head.format line is, stands, closes) refl

-- ---- what lines that pass keep

nine_hold : (a b c d e f g h i : Bool) → ◌≡◌ {A = Option ℕ} (if not a then Some 9 else (if not b then Some 1 else (if not c then Some 2 else (if not d then Some 3
    else (if not e then Some 4 else (if not f then Some 5 else (if not g then Some 6 else (if not h then Some 7 else (if not i then Some 8 else None))))))))) None
    → (b ≡ true) × (c ≡ true) × (d ≡ true) × (e ≡ true) × (f ≡ true) × (g ≡ true) × (h ≡ true) × (i ≡ true)
nine_hold false b c d e f g h i none = absurd (cc)
nine_hold true false c d e f g h i none = absurd (cc)
nine_hold true true false d e f g h i none = absurd (cc)
nine_hold true true true false e f g h i none = absurd (cc)
nine_hold true true true true false f g h i none = absurd (cc)
nine_hold true true true true true false g h i none = absurd (cc)
nine_hold true true true true true true false h i none = absurd (cc)
nine_hold true true true true true true true false i none = absurd (cc)
nine_hold true true true true true true true true false none = absurd (cc)
nine_hold true true true true true true true true true none = (refl, refl, refl, refl, refl, refl, refl, refl)

-- the rules that a line of a text keeps
pub record IsUnbroken (s : Sofar) (line : TextLine) : Type 0 where
  pub ended : rule_1 s line ≡ true
  pub stands : rule_2 s line ≡ true
  pub closes : rule_3 s line ≡ true
  pub formed : rule_4 s line ≡ true
  pub limits : rule_5 s line ≡ true
  pub chains : rule_6 s line ≡ true
  pub ends : rule_7 s line ≡ true
  pub returns : rule_8 s line ≡ true

unbroken : (s : Sofar) (line : TextLine) → broken s line ≡ None → IsUnbroken s line
unbroken s line none =
    let (ended, stands, closes, formed, limits, chains, ends, returns) =
    nine_hold (rule_9 s line) (rule_1 s line) (rule_2 s line) (rule_3 s line) (rule_4 s line) (rule_5 s line) (rule_6 s line) (rule_7 s line) (rule_8 s line) none in
    record { ended = ended; stands = stands; closes = closes; formed = formed; limits = limits; chains = chains; ends = ends; returns = returns }

-- what a line that passes keeps
pub record IsKept (s : Sofar) (line : WorkLine) : Type 0 where
  pub stands : follows s.last (sort_line line) ≡ true
  pub closes : (not (after_conjunct s.last) || goes_on (Some (sort_line line)) || heads_occur s) ≡ true
  pub limits : in_limits s line ≡ true
  pub chains : has_chains s line ≡ true
  pub ends : has_same_ends s line ≡ true
  pub returns : has_returning_words s line ≡ true

pub kept : (s : Sofar) (line : WorkLine) → is_line s.head.format line ≡ true → broken s (text_line line) ≡ None → IsKept s line
kept s line is none =
    let all = unbroken s (text_line line) none in
    let sort = sort_of-line s.head.format line is in
    let says : said s (text_line line) ≡ Some line = line_of-line s.head.format line is in
    record {
      stands = sym (ap (may_follow s.last) sort) ∙ all.stands;
      closes = sym (ap (λ o. not (after_conjunct s.last) || goes_on o || heads_occur s) sort) ∙ all.closes;
      limits = sym (ap (of_said in_limits s) says) ∙ all.limits;
      chains = sym (ap (of_said has_chains s) says) ∙ all.chains;
      ends = sym (ap (of_said has_same_ends s) says) ∙ all.ends;
      returns = sym (ap (of_said has_returning_words s) says) ∙ all.returns;
    }

-- ---- a text in which no line breaks a rule is that of lines that pass

-- lines of a text are lines that pass, and they say a value
pub record ArePassing (s : Sofar) (lines : List TextLine) (v : WorkValue) : Type 0 where
  pub found : List WorkLine
  pub same : lines ≡ map text_line found
  pub passes : Passes s found
  pub ended : after_end (after_all s found).last ≡ true
  pub value : value_of (after_all s found) ≡ v

module _ (s : Sofar) (n : ℕ) (line : TextLine) (lines : List TextLine) (v : WorkValue)
    (more : (r : Sofar) → verdict r (n + 1) lines ≡ Ok v → ArePassing r lines v) where
  passing-said : (o : Option WorkLine) → said s line ≡ o → broken s line ≡ None → verdict (after_said s o) (n + 1) lines ≡ Ok v → ArePassing s (line ∷ lines) v
  passing-said None says none ok = absurd (true≢false (sym (unbroken s line none).formed ∙ ap is_some says))
  passing-said (Some l) says none ok =
      let is : (is_line s.head.format l ≡ true) × (line_bytes l ≡ line.0) =
      subst (λ o. IfSome o (λ k. (is_line s.head.format k ≡ true) × (line_bytes k ≡ line.0))) says (line_of-bytes s.head.format line.0) in
      let same : line ≡ text_line l = λ i. (sym is.1 i, (unbroken s line none).ended i) in
      let rest = more (after s l) ok in
      record {
        found = l ∷ rest.found;
        same = λ i. same i ∷ rest.same i;
        passes = (is.0, subst (λ k. broken s k ≡ None) same none, rest.passes);
        ended = rest.ended;
        value = rest.value;
      }

  passing-line : (b : Option ℕ) → broken s line ≡ b → unless_broken n b (verdict (after_line s line) (n + 1) lines) ≡ Ok v → ArePassing s (line ∷ lines) v
  passing-line None none ok = passing-said (said s line) refl none ok
  passing-line (Some rule) some ok = absurd (cc ok)

passing-end : (s : Sofar) (n : ℕ) (v : WorkValue) (ended : Bool) → after_end s.last ≡ ended → ◌≡◌ {A = Verdict} (if ended then Ok (value_of s) else Err (n, 1)) (Ok v)
    → ArePassing s [] v
passing-end s n v true is ok = record { found = []; same = refl; passes = tt; ended = is; value = cc ok }
passing-end s n v false is ok = absurd (cc ok)

pub verdict-lines : (s : Sofar) (n : ℕ) (lines : List TextLine) (v : WorkValue) → verdict s n lines ≡ Ok v → ArePassing s lines v
verdict-lines s n [] v ok = passing-end s n v (after_end s.last) refl ok
verdict-lines s n (line ∷ lines) v ok = passing-line s n line lines v (λ r rest. verdict-lines r (n + 1) lines v rest) (broken s line) refl ok

-- a line of a text, with its LF where it has one
abbrev line_text : TextLine → List ℕ
line_text line = line.0 ++ (if line.1 then 10 ∷ [] else [])

text-parts : (parts : List (List ℕ)) → flat_map line_text (lines_of_parts parts) ≡ join_with_byte 10 parts
text-parts [] = refl
text-parts ([] ∷ []) = refl
text-parts ((byte ∷ part) ∷ []) =
    let some : (length (byte ∷ part) == 0) ≡ false = ne_eqb (length (byte ∷ part)) 0 (λ none. absurd (omega (arith, none))) in
    rw some (append-nil ((byte ∷ part) ++ []) ∙ append-nil (byte ∷ part))
text-parts (part ∷ next ∷ parts) =
    append_assoc part (10 ∷ []) (flat_map line_text (lines_of_parts (next ∷ parts))) ∙ ap (λ t. part ++ 10 ∷ t) (text-parts (next ∷ parts))

-- a text that has the lines of some lines is their text
pub text-of-lines : (text : List ℕ) (lines : List WorkLine) → lines_of text ≡ map text_line lines → lines_text lines ≡ text
text-of-lines text lines same =
    sym (flat_map-map line_text text_line lines) ∙ ap (flat_map line_text) (sym same) ∙ text-parts (slice_split (is_byte 10) text) ∙ join_with_byte-slice_split 10 text
