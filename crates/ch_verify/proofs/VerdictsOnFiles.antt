-- What a check says of the text of a graph and of the file of a hierarchy, which were read.
use Rattle.std.proofs.Common.{ℕ, ◌≡◌, ◌<◌, List, ◌++◌, length, take, [], Option, Some, Ok, Err, arith, inl, inr, refl, sym, ap, subst, ◌∙◌, length-append, append-nil}
use Rattle.std.specs.Prelude.{⊤, IfSome}
use Rattle.std.specs.Io.KnownBytes.{Appends, Keeps}
use Rattle.std.proofs.lemmas.Option.{IfSome_then}
use Rattle.std.proofs.Math.Seq.{take-append_seam}
use Rattle.counted_io.specs.Handing.{HandsOn, HandsOnPart}
use Rattle.ch_graph.specs.Graph.{Graph}
use Rattle.ch_graph.specs.Hierarchy.{Hierarchy, IsWellMade}
use Rattle.ch_graph.specs.declared.version.Version.{Version}
use Rattle.ch_graph.specs.declared.version.Version.TheVariants.{One, Two}
use Rattle.grfile.specs.Outcome.{FromText}
use Rattle.grfile.specs.Reading.{graph_of}
use Rattle.grfile.specs.declared.error.GrError.{GrError}
use Rattle.hierfile.specs.Bytes.{IsFaultOf}
use Rattle.hierfile.specs.Fault.{first_fault}
use Rattle.hierfile.specs.Spelling.{bytes_of}
use Rattle.hierfile.specs.declared.error.HierError.{HierError}
use Rattle.outcomes.specs.Causes.{text_case, file_case, of_graph, of_hierarchy}
use Rattle.outcomes.specs.declared.cause.Cause.{Cause}
use Rattle.outcomes.specs.declared.cause.Cause.TheVariants as causes
use Rattle.outcomes.specs.declared.cause.Input.TheVariants as inputs
use Rattle.outcomes.specs.Written.{both_known, known_then, IfBothKnown}
use Rattle.ch_verify.specs.Verdict.{Judges, AreOf, Says, verdict_line, BreaksOff, RefusesCheck}
use Rattle.ch_verify.specs.declared.verdict.FileVerdict.{FileVerdict}
use Rattle.ch_verify.specs.declared.verdict.FileVerdict.TheVariants.{Right}

-- the text of a graph, and the bytes of a hierarchy, that were read
pub record AreRead (g : Graph) (h : Hierarchy) (graph file : Option (List ℕ)) : Type 0 where
  pub reads : IfSome graph (λ text. graph_of text ≡ Ok g)
  pub spelled : IfSome file (λ bytes. bytes ≡ bytes_of h)
  pub made : IsWellMade h

are_of : {v : Version} {P : Graph → Hierarchy → Type 0} {g : Graph} {h : Hierarchy} (text : List ℕ) {bytes : List ℕ} → graph_of text ≡ Ok g → bytes ≡ bytes_of h → IsWellMade h → h.version ≡ v → P g h → AreOf v P text bytes
are_of {g = g} {h} text reads spelled made of_version fact = record {
  graph = g;
  hierarchy = h;
  graph_reads = reads;
  version = of_version;
  fact = fact;
  spells = record { made = made; spelled = spelled };
}

says_of : (v : FileVerdict) {g : Graph} {h : Hierarchy} (text : List ℕ) {bytes : List ℕ} → graph_of text ≡ Ok g → bytes ≡ bytes_of h → IsWellMade h → h.version ≡ Two → Judges v g h → Says v text bytes
says_of Right {g} {h} text reads spelled made two judged = record {
  graph = g;
  hierarchy = h;
  graph_reads = reads;
  version = two;
  right = judged;
  spells = record { made = made; spelled = spelled };
}
says_of v text reads spelled made two judged = are_of text reads spelled made two judged

-- what a verdict on the two says of the bytes
pub says : (v : FileVerdict) (g : Graph) (h : Hierarchy) (graph file : Option (List ℕ)) → AreRead g h graph file → h.version ≡ Two → Judges v g h → IfBothKnown graph file (Says v)
says v g h graph file read two judged = both_known graph file read.reads read.spelled (λ text bytes reads spelled. says_of v text reads spelled read.made two judged)

-- where the hierarchy is of version 1
pub is_old : (g : Graph) (h : Hierarchy) (graph file : Option (List ℕ)) → AreRead g h graph file → h.version ≡ One → IfBothKnown graph file (AreOf One (λ g h. ⊤))
is_old g h graph file read one =
    both_known graph file read.reads read.spelled (λ text bytes reads spelled. are_of text reads spelled read.made one tt)

-- where the file was refused

pub file_refused : (e : HierError) (g : Graph) (graph file old new : Option (List ℕ)) → IfSome graph (λ text. graph_of text ≡ Ok g) → IsFaultOf first_fault file e → Keeps old new → RefusesCheck graph file old new (of_hierarchy e)
file_refused e g graph file old new reads fault keeps =
    file_case e (RefusesCheck graph file old new) keeps (inr refl, keeps) (λ own. (both_known graph file reads (own (IfSome file (λ bytes. first_fault bytes ≡ Some e)) fault) (λ text bytes is fault. (g, is, fault)), keeps))

-- where the text was

pub text_refused : (fault : GrError) (graph file old new : Option (List ℕ)) → IfSome graph (λ text. FromText fault.kind (graph_of text ≡ Err fault)) → Keeps old new → RefusesCheck graph file old new (of_graph fault)
text_refused fault graph file old new told keeps =
    text_case fault.kind inputs.Graph (causes.Graph fault) (RefusesCheck graph file old new) keeps (inl refl, keeps) (λ own. (IfSome_then graph told (λ text. own (graph_of text ≡ Err fault)), keeps))

-- where the line was written, or not

-- all of it
pub whole : (v : FileVerdict) {old new : Option (List ℕ)} {line : List ℕ} {from written : ℕ} → line ≡ verdict_line v → HandsOn old new line [] from written → Appends old new (verdict_line v)
whole v {old} {new} tells h = subst (λ (l : List ℕ). Appends old new l) (sym (h.parts ∙ append-nil h.taken) ∙ tells) h.given

-- or a first part
pub first_part : (v : FileVerdict) {old new : Option (List ℕ)} {line : List ℕ} {from written : ℕ} → line ≡ verdict_line v → from ≡ 0 → HandsOnPart old new line from written
    → (written < length (verdict_line v)) × Appends old new (take written (verdict_line v))
first_part v {old} {new} {written} tells begins part =
    let taken : List ℕ = part.first.taken in
    let parts : verdict_line v ≡ taken ++ part.rest = sym tells ∙ part.first.parts in
    let count : written ≡ length taken = omega (arith, begins, part.first.counted) in
    let same : take written (verdict_line v) ≡ taken =
    ap (λ (n : ℕ). take n (verdict_line v)) count ∙ (ap (λ (l : List ℕ). take (length taken) l) parts ∙ take-append_seam taken part.rest) in (
      omega (arith, count, ap (λ (l : List ℕ). length l) parts, length-append taken part.rest, part.some),
      subst (λ (l : List ℕ). Appends old new l) (sym same) part.first.given,
    )

pub breaks : (v : FileVerdict) (graph file old new : Option (List ℕ)) (cause : Cause) → IfBothKnown graph file (Says v) → BreaksOff v old new cause → RefusesCheck graph file old new cause
breaks v graph file old new causes.Memory said off = off
breaks v graph file old new (causes.Write fault) said off =
    known_then graph file said (λ text bytes holds. (verdict_line v, (v, holds, refl), off.0, off.1))
breaks v graph file old new cause said off = absurd off
