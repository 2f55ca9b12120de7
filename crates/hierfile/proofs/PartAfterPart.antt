use Rattle.std.proofs.Common.{ℕ, ◌≡◌, ◌+◌, ◌^◌, ◌<◌, ◌≤◌, List, [], ◌∷◌, ◌++◌, length, Option, None, Some, sym, refl, ap, ◌∙◌, arith, append_assoc, length-append, zero, suc, ◌-◌, get_or, take, drop, zero-add, ◌≢◌, Result, Ok, Err, subst, append-nil, inl, ◌==◌, ◌||◌, Bool, true, false, IfSome, MatchResult, IsErrAnd}
use Rattle.std.specs.Io.KnownBytes.{Consumes, Keeps, IsAtEnd}
use Rattle.hierfile.specs.Bytes.{ButReadAhead, StopsWhere, coming, Buffered, Fits, HasNoneButHalves, HasNoneSoFar, IsCut, OfBytes, IsFaultOf}
use Rattle.std.proofs.lemmas.List.{drop-take, take-append-le, take-append-drop, length-take-le, length-drop, get_or-drop, take_more, flat_map_more}
use Rattle.std.proofs.lemmas.List.Edits.{take-paste}
use Rattle.std.proofs.lemmas.Slice.{take-put_mid_below}
use Rattle.std.proofs.Math.Seq.{paste, take-add, take-append_seam, drop-append_seam}
use borrow.Rule.Slice.PartMut.{put_mid, post_of}
use Rattle.std.specs.Int.{w32, w64, from_be_bytes}
use Rattle.std.proofs.lemmas.Nat.{be_bytes_4, be_bytes_8}
use Rattle.hierfile.specs.Spelling.{word, long}
use Rattle.std.proofs.KnownBytes.{Consumes-nil, Consumes-trans}
use Rattle.std.specs.declared.io.Error.{Error}
use Rattle.counted_io.specs.Limits.{IsRead}
use Rattle.counted_io.specs.Limits.Laws.{read_none, read_then, reads_then, refused_after}
use Rattle.hierfile.specs.declared.error.HierError.{HierError}
use Rattle.hierfile.specs.declared.error.HierError.TheVariants.{OutOfMemory, Read, Truncated}
use Rattle.hierfile.specs.Reading.{FailsBefore, HasRead, IsRefused, Refuses}
use Rattle.hierfile.proofs.FaultsOfParts.{behind, found, memory_is_no_read, read_is_no_memory}
use Rattle.std.specs.List.{flat_map, list_any}
use Rattle.std.proofs.lemmas.List.Concat.{flat_map-append}
use Rattle.std.proofs.lemmas.List.Elements.{All-push}
use Rattle.std.proofs.lemmas.List.Folds.{list_any-append}
use Rattle.hierfile.specs.declared.taken.Taken.{Taken}
use Rattle.hierfile.specs.Taken.{AreTaken, HasPlaces, is_taken}

-- Bytes that came before a reader failed.
-- what is said of the bytes that came leads to something else that is said of them
pub stops_where : (P Q : List ℕ → Type 0) (had left : Option (List ℕ)) → ((came : List ℕ) → P came → Q came) → StopsWhere P had left → StopsWhere Q had left
stops_where P Q None left f stops = tt
stops_where P Q (Some bytes) None f stops = absurd stops
stops_where P Q (Some bytes) (Some rest) f stops = (stops.0, stops.1, f stops.0 stops.2)

-- these bytes came before them
pub stops_behind : (front : List ℕ) (P Q : List ℕ → Type 0) (old mid left : Option (List ℕ)) → Consumes old mid front → ((came : List ℕ) → P came → Q (front ++ came)) → StopsWhere P mid left → StopsWhere Q old left
stops_behind front P Q None mid left h f stops = tt
stops_behind front P Q (Some xs) None left h f stops = absurd h
stops_behind front P Q (Some xs) (Some ys) None h f stops = absurd stops
stops_behind front P Q (Some xs) (Some ys) (Some rest) h f stops = (front ++ stops.0, append_assoc front stops.0 rest ∙ ap (λ l. front ++ l) stops.1 ∙ sym h, f stops.0 stops.2)

-- the reader failed where fewer waited than this many
pub stops_short : (waiting : List ℕ) (count : ℕ) (old mid left : Option (List ℕ)) → Keeps old (coming waiting mid) → Keeps mid left → length waiting < count → StopsWhere (λ came. length came < count) old left
stops_short waiting count None mid left h k less = tt
stops_short waiting count (Some xs) None left h k less = absurd h
stops_short waiting count (Some xs) (Some ys) None h k less = absurd k
stops_short waiting count (Some xs) (Some ys) (Some zs) h k less = (waiting, ap (λ l. waiting ++ l) k ∙ h, less)

-- fewer than one byte is none
pub no_byte : (P : List ℕ → Type 0) → P [] → (came : List ℕ) → length came < 1 → P came
no_byte P none [] less = none
no_byte P none (b ∷ came) less = absurd (omega (arith, less))

-- what is said of the tested bytes, where others came before them
pub ahead_behind : (front : List ℕ) (P Q : List ℕ → Type 0) → ((came : List ℕ) → P came → Q (front ++ came)) → (came : List ℕ) → ButReadAhead P came → ButReadAhead Q (front ++ came)
ahead_behind front P Q f came h = (front ++ h.0, h.1, append_assoc front h.0 h.1 ∙ ap (λ l. front ++ l) h.2, h.3, f h.0 h.4)

-- These bytes were tested. What was taken behind them, and what waits, was read ahead.
pub stops_ahead : (front held waiting : List ℕ) (P : List ℕ → Type 0) (old mid left : Option (List ℕ)) → Consumes old mid front → Consumes mid (coming waiting left) held → length held + length waiting ≤ 2 ^ 16 → P front → StopsWhere (ButReadAhead P) old left
stops_ahead front held waiting P None mid left h k room is = tt
stops_ahead front held waiting P (Some xs) None left h k room is = absurd h
stops_ahead front held waiting P (Some xs) (Some ys) None h k room is = absurd k
stops_ahead front held waiting P (Some xs) (Some ys) (Some zs) h k room is =
    let ahead : List ℕ = held ++ waiting in
    let whole : (front ++ ahead) ++ zs ≡ xs =
    append_assoc front ahead zs ∙ ap (λ l. front ++ l) (append_assoc held waiting zs ∙ sym k) ∙ sym h in
    (front ++ ahead, whole, (front, ahead, refl, omega (arith, room, length-append held waiting), is))

-- The bytes that wait in a buffer, and those behind them.
-- the bytes between two places
pub between : (bytes : List ℕ) (at end : ℕ) → at ≤ end → take (end - at) (drop at bytes) ≡ drop at (take end bytes)
between bytes at end h =
    let parts : at + (end - at) ≡ end = omega arith in
    sym (drop-take at (end - at) bytes) ∙ ap (λ n. drop at (take n bytes)) parts

-- waiting bytes that move to the front
pub moved : (bytes : List ℕ) (at end : ℕ) → at ≤ end → end ≤ length bytes → take (end - at) (paste bytes 0 (drop at bytes) (end - at)) ≡ drop at (take end bytes)
moved bytes at end h k =
    let room : end - at ≤ length (drop at bytes) = omega (arith, length-drop at bytes) in
    let pasted : take (end - at) (paste bytes 0 (drop at bytes) (end - at)) ≡ take (end - at) (drop at bytes) =
    ap (λ n. take n (paste bytes 0 (drop at bytes) (end - at))) (sym (zero-add (end - at))) ∙ take-paste bytes 0 (drop at bytes) (end - at) (omega arith) room in
    pasted ∙ between bytes at end h

-- bytes that were written over all that there were
pub written_back : (count : ℕ) (new items : List ℕ) → length new ≡ length items → count ≡ length items → take count (new ++ drop (length new) items) ≡ new
written_back count new items size counted =
    let rest : List ℕ = drop (length new) items in
    let all : count ≡ length new = omega (arith, size, counted) in
    ap (λ n. take n (new ++ rest)) all ∙ take-append_seam new rest

-- bytes that were put behind the first ones
pub put_behind : (k : ℕ) (old new : List ℕ) (end n : ℕ) → end ≤ length old → n ≤ length new → take (end + n) (put_mid end k old new) ≡ take end old ++ take n new
put_behind k old new end n h less =
    let rest : List ℕ = post_of end k old in
    let whole : List ℕ = take end old ++ (new ++ rest) in
    let behind : drop end whole ≡ new ++ rest =
    ap (λ m. drop m whole) (sym (length-take-le end old h)) ∙ drop-append_seam (take end old) (new ++ rest) in
    take-add end n whole ∙ ap (λ l. l ++ take n (drop end whole)) (take-put_mid_below end k old new end (omega arith) h)
    ∙ ap (λ l. take end old ++ take n l) behind ∙ ap (λ l. take end old ++ l) (take-append-le n new rest less)

-- what a reader gave, behind the bytes that wait
pub given : (front new all : List ℕ) (a b : Option (List ℕ)) → Consumes a b new → all ≡ front ++ new → Keeps (coming front a) (coming all b)
given front new all None b h e = tt
given front new all (Some xs) None h e = absurd h
given front new all (Some xs) (Some ys) h e = ap (λ l. l ++ ys) e ∙ append_assoc front new ys ∙ ap (λ l. front ++ l) (sym h)

-- nothing was given
pub kept : (front all : List ℕ) (a b : Option (List ℕ)) → Keeps a b → all ≡ front → Keeps (coming front a) (coming all b)
kept front all None b h e = tt
kept front all (Some xs) None h e = absurd h
kept front all (Some xs) (Some ys) h e = ap (λ l. l ++ ys) e ∙ ap (λ l. front ++ l) h

-- the first bytes of those that wait, and the rest
pub parted : (waiting old bytes rest : List ℕ) (n : ℕ) → waiting ≡ old → bytes ≡ take n waiting → rest ≡ drop n waiting → old ≡ bytes ++ rest
parted waiting old bytes rest n is first behind = sym is ∙ sym (take-append-drop n waiting) ∙ cong2 (sym first) (sym behind)
  where
    cong2 : {a b c d : List ℕ} → a ≡ b → c ≡ d → a ++ c ≡ b ++ d
    cong2 p q = cc

-- the first waiting bytes are taken
pub took : (waiting bytes rest : List ℕ) (old known : Option (List ℕ)) → Keeps old (coming waiting known) → waiting ≡ bytes ++ rest → Consumes old (coming rest known) bytes
took waiting bytes rest None known h is = tt
took waiting bytes rest (Some xs) None h is = absurd h
took waiting bytes rest (Some xs) (Some ys) h is = sym h ∙ ap (λ l. l ++ ys) is ∙ append_assoc bytes rest ys

-- one part behind another
pub parts_then : (whole first middle second rest : List ℕ) → whole ≡ first ++ middle → middle ≡ second ++ rest → whole ≡ (first ++ second) ++ rest
parts_then whole first middle second rest is behind = is ∙ ap (λ l. first ++ l) behind ∙ sym (append_assoc first second rest)

pub first_four : (w : List ℕ) → 4 ≤ length w → take 4 w ≡ get_or w 0 0 ∷ get_or w 1 0 ∷ get_or w 2 0 ∷ get_or w 3 0 ∷ []
first_four [] h = absurd (omega arith)
first_four (a ∷ []) h = absurd (omega arith)
first_four (a ∷ b ∷ []) h = absurd (omega arith)
first_four (a ∷ b ∷ c ∷ []) h = absurd (omega arith)
first_four (a ∷ b ∷ c ∷ d ∷ w) h = refl

pub first_eight : (w : List ℕ) → 8 ≤ length w → take 8 w ≡ get_or w 0 0 ∷ get_or w 1 0 ∷ get_or w 2 0 ∷ get_or w 3 0 ∷ get_or w 4 0 ∷ get_or w 5 0 ∷ get_or w 6 0 ∷ get_or w 7 0 ∷ []
first_eight w h =
    let e = first_four w (omega arith) in
    let room : 4 ≤ length (drop 4 w) = omega (arith, length-drop 4 w) in
    let f = first_four (drop 4 w) room in
    take-add 4 4 w ∙ ap (λ l. l ++ take 4 (drop 4 w)) e ∙ ap (λ l. (get_or w 0 0 ∷ get_or w 1 0 ∷ get_or w 2 0 ∷ get_or w 3 0 ∷ []) ++ l)
    (f ∙ rw (get_or-drop 4 w 0 0, get_or-drop 4 w 1 0, get_or-drop 4 w 2 0, get_or-drop 4 w 3 0) refl)

pub four_fit : (a b c d : ℕ) → a < 256 → b < 256 → c < 256 → d < 256 → (i : ℕ) → get_or (a ∷ b ∷ c ∷ d ∷ []) i 0 < 256
four_fit a b c d ha hb hc hd zero = ha
four_fit a b c d ha hb hc hd (suc zero) = hb
four_fit a b c d ha hb hc hd (suc (suc zero)) = hc
four_fit a b c d ha hb hc hd (suc (suc (suc zero))) = hd
four_fit a b c d ha hb hc hd (suc (suc (suc (suc i)))) = omega arith

-- the number that the first bytes spell
pub four_bytes : (w : List ℕ) (n : ℕ) → 4 ≤ length w → ((i : ℕ) → get_or w i 0 < 256)
    → n ≡ from_be_bytes w32 (get_or w 0 0 ∷ get_or w 1 0 ∷ get_or w 2 0 ∷ get_or w 3 0 ∷ []) → take 4 w ≡ word n
unfolding word
four_bytes w n room fits is =
    first_four w room ∙ sym (be_bytes_4 (get_or w 0 0 ∷ get_or w 1 0 ∷ get_or w 2 0 ∷ get_or w 3 0 ∷ []) n refl (four_fit _ _ _ _ (fits 0) (fits 1) (fits 2) (fits 3)) is)

pub eight_fit : (a b c d e f g h : ℕ) → a < 256 → b < 256 → c < 256 → d < 256 → e < 256 → f < 256 → g < 256 → h < 256 → (i : ℕ) → get_or (a ∷ b ∷ c ∷ d ∷ e ∷ f ∷ g ∷ h ∷ []) i 0 < 256
eight_fit a b c d e f g h ha hb hc hd he hf hg hh zero = ha
eight_fit a b c d e f g h ha hb hc hd he hf hg hh (suc zero) = hb
eight_fit a b c d e f g h ha hb hc hd he hf hg hh (suc (suc zero)) = hc
eight_fit a b c d e f g h ha hb hc hd he hf hg hh (suc (suc (suc zero))) = hd
eight_fit a b c d e f g h ha hb hc hd he hf hg hh (suc (suc (suc (suc i)))) = four_fit e f g h he hf hg hh i

pub eight_bytes : (w : List ℕ) (n : ℕ) → 8 ≤ length w → ((i : ℕ) → get_or w i 0 < 256)
    → n ≡ from_be_bytes w64 (get_or w 0 0 ∷ get_or w 1 0 ∷ get_or w 2 0 ∷ get_or w 3 0 ∷ get_or w 4 0 ∷ get_or w 5 0 ∷ get_or w 6 0 ∷ get_or w 7 0 ∷ []) → take 8 w ≡ long n
unfolding long
eight_bytes w n room fits is =
    first_eight w room ∙ sym (be_bytes_8 (get_or w 0 0 ∷ get_or w 1 0 ∷ get_or w 2 0 ∷ get_or w 3 0 ∷ get_or w 4 0 ∷ get_or w 5 0 ∷ get_or w 6 0 ∷ get_or w 7 0 ∷ []) n refl (eight_fit _ _ _ _ _ _ _ _ (fits 0) (fits 1) (fits 2) (fits 3) (fits 4) (fits 5) (fits 6) (fits 7)) is)

-- Parts of a file that are read one after the other.
-- what a `?` propagates
pub hands_back : {T E : Type 0} (r : Result T E) (Q : T → Type 0) (P : E → Type 0) (e : E) → IsErrAnd r (λ y. y ≡ e) → P e → MatchResult r Q P
hands_back (Ok x) Q P e is h = absurd is
hands_back (Err y) Q P e is h = subst P (sym is) h

module _ {S : Type 0} (step : S → S → Result ℕ Error → Type 0) (remaining : S → Option (List ℕ)) where
  -- these bytes were taken
  abbrev pub Takes : Buffered → Buffered → S → S → List ℕ → Type 0
  Takes was now old new front = HasRead step remaining was now old new (λ before after. Consumes before after front)

  -- the bytes to come have this fault
  abbrev pub Faults : Buffered → S → S → (List ℕ → Option HierError) → HierError → Type 0
  Faults was old new fault_of e = IsRefused step remaining was old new (Refuses fault_of (IsCut fault_of) (IsCut fault_of)) e

  -- memory ran out where the bytes that were tested are such
  abbrev pub RunsOut : Buffered → S → S → (List ℕ → Type 0) → Type 0
  RunsOut was old new tested = Fits was → StopsWhere (ButReadAhead tested) (coming was.waiting (remaining old)) (remaining new)

  pub takes_none : (x : Buffered) (a : S) → Takes x x a a []
  takes_none x a = record { bytes = Consumes-nil _; calls = read_none step x.left a; fits = λ fits. fits }

  -- these bytes waited, and were taken
  pub takes_waiting : {x y z : Buffered} {a b : S} (bytes : List ℕ) → HasRead step remaining x y a b Keeps → y.waiting ≡ bytes ++ z.waiting → z.left ≡ y.left → Takes x z a b bytes
  takes_waiting {x = x} {y = y} {z = z} {a = a} {b = b} bytes h is left = record {
    bytes = took y.waiting bytes z.waiting _ _ h.bytes is;
    calls = subst (λ n. IsRead step x.left n a b) (sym left) h.calls;
    fits = λ fits. omega (arith, h.fits fits, ap (λ (l : List ℕ). length l) is, length-append bytes z.waiting);
  }

  pub takes_then : {x y z : Buffered} {a b c : S} {front more : List ℕ} → Takes x y a b front → Takes y z b c more → Takes x z a c (front ++ more)
  takes_then h k = record { bytes = Consumes-trans _ _ _ _ _ h.bytes k.bytes; calls = read_then step h.calls k.calls; fits = λ fits. k.fits (h.fits fits) }

  -- memory ran out behind these bytes, which were tested
  pub runs_out : {x y : Buffered} {a b : S} {front : List ℕ} (tested : List ℕ → Type 0) → Takes x y a b front → tested front → RunsOut x a b tested
  runs_out {y = y} {front = front} tested h is = λ fits. stops_ahead front [] y.waiting tested _ _ _ h.bytes (Consumes-nil _) (omega (arith, h.fits fits)) is

  -- and behind more bytes, which were not
  pub runs_out_behind : {x y z : Buffered} {a b c : S} {front held : List ℕ} (tested : List ℕ → Type 0) → Takes x y a b front → Takes y z b c held → length held + length z.waiting ≤ 2 ^ 16 → tested front → RunsOut x a c tested
  runs_out_behind {z = z} {front = front} {held = held} tested h k room is = λ fits. stops_ahead front held z.waiting tested _ _ _ h.bytes k.bytes room is

  -- what is refused of the bytes behind these is refused of them all
  pub refused_behind : {x y : Buffered} {a b c : S} {front : List ℕ} {e : HierError} {P Q M N : List ℕ → Type 0} (f g : List ℕ → Option HierError) → Takes x y a b front → ((d : HierError) (rest : List ℕ) → f rest ≡ Some d → g (front ++ rest) ≡ Some d)
      → ((came : List ℕ) → P came → Q (front ++ came)) → ((came : List ℕ) → M came → N (front ++ came)) → IsRefused step remaining y b c (Refuses f P M) e → IsRefused step remaining x a c (Refuses g Q N) e
  refused_behind {front = front} {e = e} {P = P} {Q = Q} {M = M} {N = N} f g h leads came tested k = record {
    fault = record {
      told = behind _ f g _ _ e h.bytes (leads e) k.fault.told;
      read = λ is. stops_behind front P Q _ _ _ h.bytes came (k.fault.read is);
      memory = λ is fits. stops_behind front (ButReadAhead M) (ButReadAhead N) _ _ _ h.bytes (ahead_behind front M N tested) (k.fault.memory is (h.fits fits));
    };
    calls = reads_then step h.calls k.calls;
  }

  -- a fault of the bytes behind these is one of them all
  pub fault_behind : {x y : Buffered} {a b c : S} {front : List ℕ} {e : HierError} (f g : List ℕ → Option HierError) → Takes x y a b front → ((d : HierError) (rest : List ℕ) → f rest ≡ Some d → g (front ++ rest) ≡ Some d) → Faults y b c f e → Faults x a c g e
  fault_behind f g h leads k = refused_behind f g h leads (λ came is. leads Truncated came is) (λ came is. leads Truncated came is) k

  pub fault_so_far : {x y : Buffered} {a b c : S} {front : List ℕ} {e : HierError} {M : List ℕ → Type 0} (f g : List ℕ → Option HierError) → Takes x y a b front
      → ((d : HierError) (rest : List ℕ) → f rest ≡ Some d → g (front ++ rest) ≡ Some d) → ((came : List ℕ) → M came → HasNoneButHalves g (front ++ came))
      → IsRefused step remaining y b c (Refuses f (IsCut f) M) e → IsRefused step remaining x a c (Refuses g (HasNoneSoFar g) (HasNoneButHalves g)) e
  fault_so_far f g h leads tested k = refused_behind f g h leads (λ came is. inl (leads Truncated came is)) tested k

  -- a fault that a test found in these
  pub fault_found : {x y : Buffered} {a b : S} {front : List ℕ} {e : HierError} {P : Type 0} {Q N : List ℕ → Type 0} (g : List ℕ → Option HierError) → Takes x y a b front → (P → (rest : List ℕ) → g (front ++ rest) ≡ Some e) → OfBytes e P → e ≢ Read → (e ≡ OutOfMemory → RunsOut x a b N)
      → IsRefused step remaining x a b (Refuses g Q N) e
  fault_found {e = e} g h leads is no_read memory = record { fault = record { told = found _ g _ _ e h.bytes leads is; read = λ read. absurd (no_read read); memory = memory }; calls = refused_after step h.calls no_read }

  -- out of memory after calls of the reader
  pub no_memory : {x : Buffered} {left : ℕ} {a b : S} {Q N : List ℕ → Type 0} (g : List ℕ → Option HierError) → IsRead step x.left left a b → RunsOut x a b N → IsRefused step remaining x a b (Refuses g Q N) OutOfMemory
  no_memory g h memory = record { fault = record { told = tt; read = λ read. absurd (memory_is_no_read read); memory = λ _. memory }; calls = refused_after step h memory_is_no_read }

  -- a failed read says nothing of the bytes, but of those that came before it
  pub read_failed : {x : Buffered} {a b : S} {e : HierError} {Q N : List ℕ → Type 0} (g : List ℕ → Option HierError) (n : ℕ) → ((came : List ℕ) → length came < n → Q came) → IsRefused step remaining x a b (FailsBefore n) e → IsRefused step remaining x a b (Refuses g Q N) e
  read_failed {Q = Q} g n short h = record {
    fault = record {
      told = subst (IsFaultOf g _) (sym h.fault.read) tt;
      read = λ _. stops_where (λ came. length came < n) Q _ _ short h.fault.came;
      memory = λ memory. absurd (read_is_no_memory (sym h.fault.read ∙ memory));
    };
    calls = h.calls;
  }

  pub read_failed_after : {x y : Buffered} {a b c : S} {front : List ℕ} {e : HierError} {Q N : List ℕ → Type 0} (g : List ℕ → Option HierError) (n : ℕ) → Takes x y a b front → ((came : List ℕ) → length came < n → Q (front ++ came)) → IsRefused step remaining y b c (FailsBefore n) e
      → IsRefused step remaining x a c (Refuses g Q N) e
  read_failed_after {front = front} {Q = Q} g n h short k = record {
    fault = record {
      told = subst (IsFaultOf g _) (sym k.fault.read) tt;
      read = λ _. stops_behind front (λ came. length came < n) Q _ _ _ h.bytes short k.fault.came;
      memory = λ memory. absurd (read_is_no_memory (sym k.fault.read ∙ memory));
    };
    calls = reads_then step h.calls k.calls;
  }

-- all bytes were taken
pub all_taken : (a b : Option (List ℕ)) (bytes : List ℕ) → Consumes a b bytes → IsAtEnd b → IfSome a (λ known. known ≡ bytes)
all_taken None b bytes h e = tt
all_taken (Some xs) None bytes h e = absurd h
all_taken (Some xs) (Some ys) bytes h e = h ∙ ap (λ l. bytes ++ l) e ∙ append-nil bytes

-- A list that is spelled item by item.
-- one more item
pub spelled-more : {X : Type 0} (f : X → List ℕ) (xs : List X) (i : ℕ) (d : X) → i < length xs → flat_map f (take i xs) ++ f (get_or xs i d) ≡ flat_map f (take (i + 1) xs)
spelled-more f xs i d h = flat_map_more f [] (take i xs) (get_or xs i d) ∙ ap (flat_map f) (sym (take_more xs i d h))

-- all that are left
pub spelled-rest : {X : Type 0} (f : X → List ℕ) (xs : List X) (i : ℕ) → flat_map f (take i xs) ++ flat_map f (drop i xs) ≡ flat_map f xs
spelled-rest f xs i = sym (flat_map-append f (take i xs) (drop i xs)) ∙ ap (flat_map f) (take-append-drop i xs)

-- Ranks that come.
or_false : (b : Bool) → (b || false) ≡ b
or_false true = refl
or_false false = refl

-- one rank more is taken
pub taken_more : (nodes rank : ℕ) (ranks : List ℕ) (old new : Taken) → rank < nodes → AreTaken nodes old ranks → HasPlaces nodes new → ((n : ℕ) → is_taken new n ≡ (is_taken old n || rank == n)) → AreTaken nodes new (ranks ++ rank ∷ [])
taken_more nodes rank ranks old new h are places added =
    record {
      places = places;
      below = All-push (λ r. r < nodes) ranks rank are.below h;
      same = λ n. added n ∙ ap (λ b. b || rank == n) (are.same n) ∙ ap (λ b. list_any (λ m. m == n) ranks || b) (sym (or_false (rank == n))) ∙ sym (list_any-append (λ m. m == n) ranks (rank ∷ []));
    }
