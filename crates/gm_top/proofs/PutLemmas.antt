-- What a file gains when a text is put into it part by part.
use Rattle.std.proofs.Common.{◌≡◌, ◌∙◌, ℕ, ◌+◌, ◌<◌, ◌≤◌, List, [], ◌∷◌, ◌++◌, length, take, drop, Option, Some, None, refl, ap, sym, subst, append_assoc, append-nil, inr, arith}
use Rattle.std.proofs.lemmas.List.{take-append-drop, length-append}
use Rattle.gm_io.specs.Count.{raised}
use Rattle.gm_io.specs.FileList.{FileList, Told, with_piece, Gained, GainedPart, IsPrefix}
use Rattle.gm_files.specs.Calls.{piece_most, full_count, pieces_of, file_calls}
use Rattle.gm_files.specs.Pieces.{full_pieces, last_piece}
use Rattle.gm_files.proofs.Gains.{with_piece-append, Gained-write}
use Rattle.gm_files.proofs.PieceLemmas.{full_pieces-last_piece, length-last_piece}
use Rattle.graph_text.specs.declared.graphs.Triple.{Triple}
use Rattle.graph_text.specs.EdgesText.{edge_line, edges_text}
use Rattle.graph_text.proofs.EdgesTextLemmas.{edges_text-append}
use Rattle.gm_io.specs.Folder.{KeepsFiles}
use Rattle.gm_top.specs.Putting.{Puts, PutsPart, CallsToPut, PutsText, PutsTextPart, PutSoFar}

-- two pieces, one after the other, are one
with_piece-more : (files : FileList) (first second : List ℕ) → with_piece (with_piece files first) second ≡ with_piece files (first ++ second)
with_piece-more [] first second = refl
with_piece-more (file ∷ []) first second = ap (λ (text : List ℕ). (file.0, text) ∷ []) (append_assoc file.1 first second)
with_piece-more (file ∷ next ∷ []) first second = ap (λ (rest : FileList). file ∷ rest) (with_piece-more (next ∷ []) first second)
with_piece-more (file ∷ next ∷ more ∷ files) first second = ap (λ (rest : FileList). file ∷ rest) (with_piece-more (next ∷ more ∷ files) first second)

-- no piece changes nothing
with_piece-none : (files : FileList) → with_piece files [] ≡ files
with_piece-none [] = refl
with_piece-none (file ∷ []) = ap (λ (text : List ℕ). (file.0, text) ∷ []) (append-nil file.1)
with_piece-none (file ∷ next ∷ files) = ap (λ (rest : FileList). file ∷ rest) (with_piece-none (next ∷ files))

-- ---- one part of a text

Told-same : (files : Option FileList) → Told files files (λ xs ys. ys ≡ with_piece xs [])
Told-same None = tt
Told-same (Some xs) = sym (with_piece-none xs)

Told-more : (old mid new : Option FileList) (first second : List ℕ) → Told old mid (λ xs ys. ys ≡ with_piece xs first)
    → Told mid new (λ xs ys. ys ≡ with_piece xs second) → Told old new (λ xs ys. ys ≡ with_piece xs (first ++ second))
Told-more None mid new first second once twice = tt
Told-more (Some xs) None new first second once twice = absurd once
Told-more (Some xs) (Some ys) None first second once twice = twice
Told-more (Some xs) (Some ys) (Some zs) first second once twice = twice ∙ ap (λ (files : FileList). with_piece files second) once ∙ with_piece-more xs first second

-- nothing was put
pub Puts-none : (files : Option FileList) (kept : List ℕ) → Puts files files kept kept []
Puts-none files kept = ([], append-nil kept, Told-same files)

pub PutsPart-none : (files : Option FileList) (text : List ℕ) → PutsPart files files text
PutsPart-none None text = tt
PutsPart-none (Some xs) text = ([], (text, refl), sym (with_piece-none xs))

-- the bytes that are written and kept, after one more part
put-more : (before text between line written piece after : List ℕ) → before ++ text ≡ written ++ between → between ++ line ≡ piece ++ after
    → before ++ (text ++ line) ≡ (written ++ piece) ++ after
put-more before text between line written piece after first second =
    sym (append_assoc before text line)
    ∙ ap (λ (bytes : List ℕ). bytes ++ line) first
    ∙ append_assoc written between line
    ∙ ap (λ (bytes : List ℕ). written ++ bytes) second
    ∙ sym (append_assoc written piece after)

-- one more part was put
pub Puts-more : (old mid new : Option FileList) (before between after text line : List ℕ) → Puts old mid before between text
    → Told mid new (λ xs ys. ys ≡ with_piece xs (full_pieces (between ++ line))) → after ≡ last_piece (between ++ line) → Puts old new before after (text ++ line)
Puts-more old mid new before between after text line put wrote kept =
    let piece = full_pieces (between ++ line) in (
      put.0 ++ piece,
      put-more before text between line put.0 piece after put.1 (sym (full_pieces-last_piece (between ++ line)) ∙ ap (λ (bytes : List ℕ). piece ++ bytes) (sym kept)),
      Told-more old mid new put.0 piece put.2 wrote,
    )

-- a start of a piece, among what was written before and what follows
start-of : (written start end after rest : List ℕ) → ((written ++ (start ++ end)) ++ after) ++ rest ≡ (written ++ start) ++ (end ++ (after ++ rest))
start-of written start end after rest =
    append_assoc (written ++ (start ++ end)) after rest
    ∙ ap (λ (bytes : List ℕ). bytes ++ (after ++ rest)) (sym (append_assoc written start end))
    ∙ append_assoc (written ++ start) end (after ++ rest)

-- one more part was put, and a write of it failed
pub PutsPart-more : (old mid new : Option FileList) (before between text line all rest : List ℕ) → Puts old mid before between text
    → Told mid new (λ xs ys. (kept : ℕ) × (ys ≡ with_piece xs (take kept (full_pieces (between ++ line))))) → all ≡ (before ++ (text ++ line)) ++ rest → PutsPart old new all
PutsPart-more None mid new before between text line all rest put wrote is = tt
PutsPart-more (Some xs) None new before between text line all rest put wrote is = absurd put.2
PutsPart-more (Some xs) (Some ys) None before between text line all rest put wrote is = wrote
PutsPart-more (Some xs) (Some ys) (Some zs) before between text line all rest put wrote is =
    let piece = full_pieces (between ++ line) in
    let after = last_piece (between ++ line) in
    let cut = take-append-drop wrote.0 piece in
    let parts =
    is
    ∙ ap (λ (bytes : List ℕ). bytes ++ rest) (put-more before text between line put.0 piece after put.1 (sym (full_pieces-last_piece (between ++ line))))
    ∙ ap (λ (bytes : List ℕ). ((put.0 ++ bytes) ++ after) ++ rest) (sym cut)
    ∙ start-of put.0 (take wrote.0 piece) (drop wrote.0 piece) after rest in (
      put.0 ++ take wrote.0 piece,
      (drop wrote.0 piece ++ (after ++ rest), parts),
      wrote.1 ∙ ap (λ (files : FileList). with_piece files (take wrote.0 piece)) put.2 ∙ with_piece-more xs put.0 (take wrote.0 piece),
    )

-- a failed write of the kept bytes
pub PutsPart-write : (old new : Option FileList) (kept : List ℕ) → Told old new (λ xs ys. (count : ℕ) × (ys ≡ with_piece xs (take count kept))) → PutsPart old new kept
PutsPart-write None new kept wrote = tt
PutsPart-write (Some xs) None kept wrote = wrote
PutsPart-write (Some xs) (Some ys) kept wrote = (take wrote.0 kept, (drop wrote.0 kept, sym (take-append-drop wrote.0 kept)), wrote.1)

-- the lines of some edges, and of one more
lines-edge : (done : List Triple) (edge : Triple) (bytes : List ℕ) → bytes ≡ edge_line edge → edges_text done ++ bytes ≡ edges_text (done ++ edge ∷ [])
lines-edge done edge bytes is =
    ap (λ (text : List ℕ). edges_text done ++ text) (is ∙ sym (append-nil (edge_line edge))) ∙ sym (edges_text-append done (edge ∷ []))

-- one more line was put
pub Puts-edge : (old mid new : Option FileList) (before between after bytes : List ℕ) (done : List Triple) (edge : Triple) → Puts old mid before between (edges_text done)
    → bytes ≡ edge_line edge → Told mid new (λ xs ys. ys ≡ with_piece xs (full_pieces (between ++ bytes))) → after ≡ last_piece (between ++ bytes)
    → Puts old new before after (edges_text (done ++ edge ∷ []))
Puts-edge old mid new before between after bytes done edge put is wrote kept =
    subst (λ (text : List ℕ). Puts old new before after text) (lines-edge done edge bytes is) (Puts-more old mid new before between after (edges_text done) bytes put wrote kept)

-- one more line was put, and a write of it failed
pub PutsPart-edge : (old mid new : Option FileList) (before between bytes : List ℕ) (all done rest : List Triple) (edge : Triple) → Puts old mid before between (edges_text done)
    → bytes ≡ edge_line edge → Told mid new (λ xs ys. (kept : ℕ) × (ys ≡ with_piece xs (take kept (full_pieces (between ++ bytes))))) → all ≡ done ++ (edge ∷ rest)
    → PutsPart old new (before ++ edges_text all)
PutsPart-edge old mid new before between bytes all done rest edge put is wrote same =
    let lines : edges_text all ≡ (edges_text done ++ bytes) ++ edges_text rest =
    ap edges_text same
    ∙ edges_text-append done (edge ∷ rest)
    ∙ ap (λ (line : List ℕ). edges_text done ++ (line ++ edges_text rest)) (sym is)
    ∙ sym (append_assoc (edges_text done) bytes (edges_text rest)) in
    PutsPart-more old mid new before between (edges_text done) bytes (before ++ edges_text all) (edges_text rest) put wrote
    (ap (λ (text : List ℕ). before ++ text) lines ∙ sym (append_assoc before (edges_text done ++ bytes) (edges_text rest)))

-- ---- the calls of the folder

pub CallsToPut-none : (calls : ℕ) (kept : List ℕ) → length kept < piece_most → CallsToPut calls calls kept kept []
CallsToPut-none calls kept short = record { each_piece = omega (arith, short); kept = omega (arith, short) }

-- one more text was put
pub CallsToPut-more : (c d e : ℕ) (before between after text more all : List ℕ) → CallsToPut c d before between text → CallsToPut d e between after more
    → all ≡ text ++ more → CallsToPut c e before after all
CallsToPut-more c d e before between after text more all first second same = record {
  each_piece = omega (arith, first.each_piece, first.kept, second.each_piece, ap length same, length-append text more);
  kept = omega (arith, first.kept, second.kept, ap length same, length-append text more);
}

-- one more part was put
pub CallsToPut-part : (c d e : ℕ) (before between after bytes text : List ℕ) → CallsToPut c d before between text
    → e ≡ raised d (full_count (length between + length bytes)) → after ≡ last_piece (between ++ bytes) → CallsToPut c e before after (text ++ bytes)
CallsToPut-part c d e before between after bytes text put called kept =
    let own : CallsToPut d e between after bytes =
    record { each_piece = called; kept = omega (arith, ap length kept, length-last_piece (between ++ bytes), length-append between bytes) } in
    CallsToPut-more c d e before between after text bytes _ put own refl

-- the calls for some parts are not more than those for a text that begins with them
pub CallsToPut-part-within : (c d e : ℕ) (before between bytes text all rest : List ℕ) → CallsToPut c d before between text
    → e ≡ raised d (full_count (length between + length bytes)) → all ≡ (text ++ bytes) ++ rest
    → e ≤ raised c (full_count (length before + length all))
CallsToPut-part-within c d e before between bytes text all rest put called same =
    let own = CallsToPut-part c d e before between (last_piece (between ++ bytes)) bytes text put called refl in
    omega (arith, own.each_piece, ap length same, length-append (text ++ bytes) rest)

-- one more line was put
pub CallsToPut-edge : (c d e : ℕ) (before between after bytes : List ℕ) (done : List Triple) (edge : Triple) → CallsToPut c d before between (edges_text done)
    → bytes ≡ edge_line edge → e ≡ raised d (full_count (length between + length bytes)) → after ≡ last_piece (between ++ bytes)
    → CallsToPut c e before after (edges_text (done ++ edge ∷ []))
CallsToPut-edge c d e before between after bytes done edge put is called kept =
    subst (λ (text : List ℕ). CallsToPut c e before after text) (lines-edge done edge bytes is) (CallsToPut-part c d e before between after bytes (edges_text done) put called kept)

-- the calls for some lines are not more than those for all
pub CallsToPut-within : (c d e : ℕ) (before between bytes : List ℕ) (all done rest : List Triple) (edge : Triple) → CallsToPut c d before between (edges_text done)
    → bytes ≡ edge_line edge → e ≡ raised d (full_count (length between + length bytes)) → all ≡ done ++ (edge ∷ rest)
    → e ≤ raised c (full_count (length before + length (edges_text all)))
CallsToPut-within c d e before between bytes all done rest edge put is called same =
    CallsToPut-part-within c d e before between bytes (edges_text done) (edges_text all) (edges_text rest) put called
    (ap edges_text (same ∙ sym (append_assoc done (edge ∷ []) rest))
    ∙ edges_text-append (done ++ edge ∷ []) rest
    ∙ ap (λ (text : List ℕ). text ++ edges_text rest) (sym (lines-edge done edge bytes is)))

-- ---- the file that is made

-- a text was put into the gained file
pub Gained-Puts : (old mid new : Option FileList) (name done before after text so_far : List ℕ) → done ++ before ≡ so_far
    → Gained old mid ((name, done) ∷ []) → Puts mid new before after text
    → (now : List ℕ) × (now ++ after ≡ so_far ++ text) × Gained old new ((name, now) ∷ [])
Gained-Puts old mid new name done before after text so_far same gained put = (
  done ++ put.0,
  append_assoc done put.0 after
      ∙ ap (λ (bytes : List ℕ). done ++ bytes) (sym put.1)
      ∙ sym (append_assoc done before text)
      ∙ ap (λ (bytes : List ℕ). bytes ++ text) same,
  Gained-write old mid new name done put.0 gained put.2,
)

-- the start of a text was put into the gained file
pub GainedPart-PutsPart : (old mid new : Option FileList) (name done text rest all : List ℕ) → Gained old mid ((name, done) ∷ []) → PutsPart mid new text
    → all ≡ done ++ (text ++ rest) → GainedPart old new ((name, all) ∷ [])
GainedPart-PutsPart None mid new name done text rest all gained put is = tt
GainedPart-PutsPart (Some xs) None new name done text rest all gained put is = absurd gained
GainedPart-PutsPart (Some xs) (Some ys) None name done text rest all gained put is = put
GainedPart-PutsPart (Some xs) (Some ys) (Some zs) name done text rest all gained (written, prefix, wrote) is =
    let parts =
    is
    ∙ ap (λ (bytes : List ℕ). done ++ (bytes ++ rest)) prefix.1
    ∙ ap (λ (bytes : List ℕ). done ++ bytes) (append_assoc written prefix.0 rest)
    ∙ sym (append_assoc done written (prefix.0 ++ rest)) in (
      (name, done ++ written) ∷ [],
      inr (refl, refl, (prefix.0 ++ rest, parts)),
      rw (wrote, gained) (with_piece-append xs name done written),
    )

-- a folder that is as before
pub KeepsFiles-same : (files : Option FileList) → KeepsFiles files files
KeepsFiles-same None = tt
KeepsFiles-same (Some xs) = refl

-- ---- a text, and more texts behind it

-- nothing was put
pub PutsText-none : (files : Option FileList) (calls : ℕ) (kept : List ℕ) → length kept < piece_most → PutsText files files calls calls kept kept []
PutsText-none files calls kept short = record { puts = Puts-none files kept; called = CallsToPut-none calls kept short }

-- the same text was put
pub PutsText-same : (old new : Option FileList) (c d : ℕ) (before after text other : List ℕ) → text ≡ other → PutsText old new c d before after text
    → PutsText old new c d before after other
PutsText-same old new c d before after text other same put = subst (λ (bytes : List ℕ). PutsText old new c d before after bytes) same put

-- one more piece was put
pub PutsText-piece : (old mid new : Option FileList) (c d e : ℕ) (before between after text bytes : List ℕ) → PutsText old mid c d before between text
    → Told mid new (λ xs ys. ys ≡ with_piece xs (full_pieces (between ++ bytes))) → e ≡ raised d (full_count (length between + length bytes))
    → after ≡ last_piece (between ++ bytes) → PutsText old new c e before after (text ++ bytes)
PutsText-piece old mid new c d e before between after text bytes put wrote called kept = record {
  puts = Puts-more old mid new before between after text bytes put.puts wrote kept;
  called = CallsToPut-part c d e before between after bytes text put.called called kept;
}

-- one more piece was put, and a write of it failed
pub PutsTextPart-piece : (old mid new : Option FileList) (c d e : ℕ) (before between text bytes rest all : List ℕ) → PutsText old mid c d before between text
    → Told mid new (λ xs ys. (kept : ℕ) × (ys ≡ with_piece xs (take kept (full_pieces (between ++ bytes))))) → e ≡ raised d (full_count (length between + length bytes))
    → all ≡ (text ++ bytes) ++ rest → PutsTextPart old new c e before all
PutsTextPart-piece old mid new c d e before between text bytes rest all put wrote called is = record {
  puts =
      PutsPart-more old mid new before between text bytes (before ++ all) rest put.puts wrote
      (ap (λ (more : List ℕ). before ++ more) is ∙ sym (append_assoc before (text ++ bytes) rest));
  called = CallsToPut-part-within c d e before between bytes text all rest put.called called is;
}

-- one more text was put
pub PutsText-append : (old mid new : Option FileList) (c d e : ℕ) (before between after text more : List ℕ) → PutsText old mid c d before between text
    → PutsText mid new d e between after more → PutsText old new c e before after (text ++ more)
PutsText-append old mid new c d e before between after text more put then = record {
  puts = (
    put.puts.0 ++ then.puts.0,
    put-more before text between more put.puts.0 then.puts.0 after put.puts.1 then.puts.1,
    Told-more old mid new put.puts.0 then.puts.0 put.puts.2 then.puts.2,
  );
  called = CallsToPut-more c d e before between after text more _ put.called then.called refl;
}

-- the start of what was kept and of one more text was put
starts-append : (before text between more written start left rest : List ℕ) → before ++ text ≡ written ++ between → between ++ more ≡ start ++ left
    → before ++ ((text ++ more) ++ rest) ≡ (written ++ start) ++ (left ++ rest)
starts-append before text between more written start left rest first second =
    sym (append_assoc before (text ++ more) rest)
    ∙ ap (λ (bytes : List ℕ). bytes ++ rest) (put-more before text between more written start left first second)
    ∙ append_assoc (written ++ start) left rest

told-starts : (old mid new : Option FileList) (written text : List ℕ) → Told old mid (λ xs ys. ys ≡ with_piece xs written) → PutsPart mid new text
    → Told old new (λ xs ys. (start : List ℕ) × IsPrefix start text × (ys ≡ with_piece xs (written ++ start)))
told-starts None mid new written text once part = tt
told-starts (Some xs) None new written text once part = absurd once
told-starts (Some xs) (Some ys) None written text once part = part
told-starts (Some xs) (Some ys) (Some zs) written text once (start, prefix, wrote) =
    (start, prefix, wrote ∙ ap (λ (files : FileList). with_piece files start) once ∙ with_piece-more xs written start)

told-part : (old new : Option FileList) (before text between more written rest all : List ℕ) → before ++ text ≡ written ++ between → all ≡ (text ++ more) ++ rest
    → Told old new (λ xs ys. (start : List ℕ) × IsPrefix start (between ++ more) × (ys ≡ with_piece xs (written ++ start))) → PutsPart old new (before ++ all)
told-part None new before text between more written rest all first is told = tt
told-part (Some xs) None before text between more written rest all first is told = told
told-part (Some xs) (Some ys) before text between more written rest all first is (start, (left, prefix), wrote) = (
  written ++ start,
  (left ++ rest, ap (λ (bytes : List ℕ). before ++ bytes) is ∙ starts-append before text between more written start left rest first prefix),
  wrote,
)

pub PutsTextPart-append : (old mid new : Option FileList) (c d e : ℕ) (before between text more rest all : List ℕ) → PutsText old mid c d before between text
    → PutsTextPart mid new d e between more → all ≡ (text ++ more) ++ rest → PutsTextPart old new c e before all
PutsTextPart-append old mid new c d e before between text more rest all put then is = record {
  puts =
      told-part old new before text between more put.puts.0 rest all put.puts.1 is
      (told-starts old mid new put.puts.0 (between ++ more) put.puts.2 then.puts);
  called =
      omega (arith, then.called, put.called.each_piece, put.called.kept, ap length is, length-append (text ++ more) rest, length-append text more);
}

-- nothing more was put of a text that begins so
pub PutsTextPart-stopped : (old now : Option FileList) (c d : ℕ) (before after text rest all : List ℕ) → PutsText old now c d before after text
    → all ≡ text ++ rest → PutsTextPart old now c d before all
PutsTextPart-stopped old now c d before after text rest all put is =
    PutsTextPart-append old now now c d d before after text [] rest all put
    (record { puts = PutsPart-none now (after ++ []); called = omega arith }) (is ∙ ap (λ (bytes : List ℕ). bytes ++ rest) (sym (append-nil text)))

-- ---- a file, from its create to its finish

-- it was created, and nothing is kept
PutSoFar-none : (old now : Option FileList) (calls calls_now : ℕ) (name : List ℕ) → Gained old now ((name, []) ∷ []) → calls_now ≡ raised calls 1
    → PutSoFar old now calls calls_now name [] []
PutSoFar-none old now calls calls_now name gained called =
    record { done = []; whole = refl; gained = gained; called = rw called (CallsToPut-none (raised calls 1) [] (omega arith)) }

-- it was created, and no bytes are kept
pub PutSoFar-created : (old now : Option FileList) (calls calls_now : ℕ) (name kept : List ℕ) → Gained old now ((name, []) ∷ []) → calls_now ≡ raised calls 1
    → kept ≡ [] → PutSoFar old now calls calls_now name kept []
PutSoFar-created old now calls calls_now name kept gained called empty =
    subst (λ (bytes : List ℕ). PutSoFar old now calls calls_now name bytes []) (sym empty) (PutSoFar-none old now calls calls_now name gained called)

-- one more text was put
PutSoFar-more : (old mid new : Option FileList) (calls calls_mid calls_new : ℕ) (name before after text more all : List ℕ)
    → PutSoFar old mid calls calls_mid name before text → PutsText mid new calls_mid calls_new before after more
    → all ≡ text ++ more → PutSoFar old new calls calls_new name after all
PutSoFar-more old mid new calls calls_mid calls_new name before after text more all put then same =
    let now = Gained-Puts old mid new name put.done before after more text put.whole put.gained then.puts in
    record { done = now.0; whole = now.1 ∙ sym same; gained = now.2; called = CallsToPut-more _ _ _ [] before after text more all put.called then.called same }

-- a whole text was put
pub PutSoFar-whole : (old made now : Option FileList) (calls calls_made calls_now : ℕ) (name before after text : List ℕ) → Gained old made ((name, []) ∷ [])
    → calls_made ≡ raised calls 1 → before ≡ [] → PutsText made now calls_made calls_now before after text → PutSoFar old now calls calls_now name after text
PutSoFar-whole old made now calls calls_made calls_now name before after text gained called empty put =
    PutSoFar-more old made now calls calls_made calls_now name before after [] text text (PutSoFar-created old made calls calls_made name before gained called empty) put refl

-- a put failed of what was kept and of one more text, with which the text of the file begins
pub PutSoFar-failed : (old mid new : Option FileList) (calls calls_mid calls_new : ℕ) (name before text more rest all : List ℕ)
    → PutSoFar old mid calls calls_mid name before text → PutsTextPart mid new calls_mid calls_new before more → all ≡ (text ++ more) ++ rest
    → GainedPart old new ((name, all) ∷ []) × (calls_new ≤ raised calls (file_calls (length all)))
PutSoFar-failed old mid new calls calls_mid calls_new name before text more rest all put part is =
    let parts =
    is
    ∙ ap (λ (bytes : List ℕ). (bytes ++ more) ++ rest) (sym put.whole)
    ∙ ap (λ (bytes : List ℕ). bytes ++ rest) (append_assoc put.done before more)
    ∙ append_assoc put.done (before ++ more) rest in (
      GainedPart-PutsPart old mid new name put.done (before ++ more) rest all put.gained part.puts parts,
      omega (arith, part.called, put.called.each_piece, put.called.kept, ap length is, length-append (text ++ more) rest, length-append text more),
    )

-- what was kept was written
pub PutSoFar-flushed : (old mid new : Option FileList) (calls calls_mid calls_new : ℕ) (name kept text : List ℕ) → PutSoFar old mid calls calls_mid name kept text
    → Told mid new (λ xs ys. ys ≡ with_piece xs kept) → calls_new ≡ raised calls_mid (pieces_of (length kept))
    → Gained old new ((name, text) ∷ []) × (calls_new ≡ raised calls (1 + pieces_of (length text)))
PutSoFar-flushed old mid new calls calls_mid calls_new name kept text put wrote called = (
  subst (λ (bytes : List ℕ). Gained old new ((name, bytes) ∷ [])) put.whole (Gained-write old mid new name put.done kept put.gained wrote),
  omega (arith, called, put.called.each_piece, put.called.kept),
)

-- a write of what was kept failed
pub PutSoFar-unflushed : (old mid new : Option FileList) (calls calls_mid calls_new : ℕ) (name kept text : List ℕ) → PutSoFar old mid calls calls_mid name kept text
    → Told mid new (λ xs ys. (count : ℕ) × (ys ≡ with_piece xs (take count kept))) → calls_new ≡ raised calls_mid (pieces_of (length kept))
    → GainedPart old new ((name, text) ∷ []) × (calls_new ≤ raised calls (file_calls (length text)))
PutSoFar-unflushed old mid new calls calls_mid calls_new name kept text put wrote called = (
  GainedPart-PutsPart old mid new name put.done kept [] text put.gained (PutsPart-write mid new kept wrote)
      (sym put.whole ∙ ap (λ (bytes : List ℕ). put.done ++ bytes) (sym (append-nil kept))),
  omega (arith, called, put.called.each_piece, put.called.kept),
)
