-- The edits of one folder more.
use Rattle.std.proofs.Common.{◌≡◌, ◌<◌, ◌⊎◌, inl, inr, ℕ, zero, suc, ◌+◌, Bool, true, false, List, [], ◌∷◌, ◌++◌, refl, sym, ap, subst, ◌∙◌, append-nil, append_assoc, Option, Some, take, length, arith, Contains, get_or}
use Rattle.std.specs.Prelude.{slice_get, ◌&&◌, Err}
use Rattle.std.specs.List.{flat_map, list_all}
use Rattle.std.proofs.lemmas.Grind.{flat_map-append}
use Rattle.std.proofs.lemmas.List.{length-append, length-take-le}
use Rattle.std.proofs.lemmas.List.Folds.{list_all-append}
use Rattle.std.proofs.lemmas.Option.{slice_get_within, slice_get_read, get_or_from_slice_get}
use Rattle.sj_session.proofs.Taken.{more_taken}
use Rattle.sj_names.specs.declared.entry_points.EntryPoint.{EntryPoint}
use Rattle.sj_names.specs.declared.folders.SourceFile.{SourceFile}
use Rattle.sj_outside.specs.Contents.{Parts}
use Rattle.sj_outside.specs.Writing.{Event, put_in, Writes, WritesFront}
use Rattle.sj_outside.specs.declared.answers.PutFile.{PutFile}
use Rattle.sj_outside.proofs.Laws.{Writes-none, Writes-then}
use Rattle.folder_files.specs.Files.{AreFilesOf, HasRead}
use Rattle.sj_split.specs.declared.plans.Style.{Style}
use Rattle.sjslink.specs.Editing.{IsShownEdit, IsEditWritten, IsEditCut, nothing, front_of, EditEnds, FirstEdits, AreWritten, AreCut}
use Rattle.sjslink.specs.Headline.{Answer, IsAnswerAt, AreAnswers, puts_for, puts_from}
use Rattle.sjslink.specs.Output.{Edited, AreEdited, IsEdited, events_of, was_accepted}
use Rattle.sjslink.specs.declared.editing.Fault.{Fault}
use Rattle.sjslink.specs.declared.editing.Fault.TheVariants.{Read, Write, NoMemory}
use Rattle.sjslink.proofs.Read.{edit_of_read}
use Rattle.sjslink.proofs.Puts.{then_front, whole_is_front}

and_true : (b : Bool) → (b && true) ≡ b
and_true true = refl
and_true false = refl

module _ {X : Type 0} where
  -- what stands at a place of a list with one more behind
  got_pushed : (xs : List X) (x : X) (i : ℕ) (y : X) → slice_get (xs ++ x ∷ []) i ≡ Some y → (slice_get xs i ≡ Some y) ⊎ ((i ≡ length xs) × (x ≡ y))
  got_pushed [] x zero y e = let same : x ≡ y = cc in inr (refl, same)
  got_pushed [] x (suc i) y e = cc
  got_pushed (z ∷ xs) x zero y e = inl e
  got_pushed (z ∷ xs) x (suc i) y e = go (got_pushed xs x i y e)
    where
      go : (slice_get xs i ≡ Some y) ⊎ ((i ≡ length xs) × (x ≡ y)) → (slice_get xs i ≡ Some y) ⊎ ((suc i ≡ suc (length xs)) × (x ≡ y))
      go (inl f) = inl f
      go (inr p) = inr (ap suc p.0, p.1)

-- what is put for one answer more
puts_more : (out : List ℕ) (number : ℕ) (answers : List Answer) (a : Answer) → puts_from out number (answers ++ a ∷ []) ≡ puts_from out number answers ++ puts_for out (number + length answers) a
puts_more out number [] a = let here : number ≡ number + 0 = omega arith in append-nil (puts_for out number a) ∙ ap (λ n. puts_for out n a) here
puts_more out number (b ∷ bs) a =
    let next : (number + 1) + length bs ≡ number + length (b ∷ bs) = omega arith in
    ap (λ ps. puts_for out number b ++ ps) (puts_more out (number + 1) bs a ∙ ap (λ n. puts_from out (number + 1) bs ++ puts_for out n a) next) ∙ sym (append_assoc (puts_for out number b) (puts_from out (number + 1) bs) (puts_for out (number + length (b ∷ bs)) a))

module _ (contents : Parts) (out : List ℕ) (entries : List EntryPoint) (style : Style) where
  edited_more : (paths : List (List ℕ)) (edits : List Edited) (path : List ℕ) (e : Edited) → AreEdited contents out entries style paths edits → IsEdited contents out entries style (length paths + 1) path e → AreEdited contents out entries style (paths ++ path ∷ []) (edits ++ e ∷ [])
  edited_more paths edits path e are is = record {
    whole = length-append edits (e ∷ []) ∙ ap (λ n. n + 1) are.whole ∙ sym (length-append paths (path ∷ []));
    each = λ i p f at_p at_f. go i p f (got_pushed paths path i p at_p) (got_pushed edits e i f at_f);
  }
    where
      go : (i : ℕ) (p : List ℕ) (f : Edited) → (slice_get paths i ≡ Some p) ⊎ ((i ≡ length paths) × (path ≡ p)) → (slice_get edits i ≡ Some f) ⊎ ((i ≡ length edits) × (e ≡ f)) → IsEdited contents out entries style (i + 1) p f
      go i p f (inl a) (inl b) = are.each i p f a b
      go i p f (inl a) (inr b) = absurd (omega (arith, slice_get_within paths i p a, b.0, are.whole))
      go i p f (inr a) (inl b) = absurd (omega (arith, slice_get_within edits i f b, a.0, are.whole))
      go i p f (inr a) (inr b) = subst (λ n. IsEdited contents out entries style (n + 1) p f) (sym a.0) (subst (λ q. IsEdited contents out entries style (length paths + 1) q f) a.1 (subst (λ g. IsEdited contents out entries style (length paths + 1) path g) b.1 is))

  answered_more : (paths : List (List ℕ)) (answers : List Answer) (path : List ℕ) (a : Answer) → AreAnswers contents entries style paths answers → IsAnswerAt contents entries style path a → AreAnswers contents entries style (paths ++ path ∷ []) (answers ++ a ∷ [])
  answered_more paths answers path a are is = record {
    whole = length-append answers (a ∷ []) ∙ ap (λ n. n + 1) are.whole ∙ sym (length-append paths (path ∷ []));
    each = λ i p b at_p at_b. go i p b (got_pushed paths path i p at_p) (got_pushed answers a i b at_b);
  }
    where
      go : (i : ℕ) (p : List ℕ) (b : Answer) → (slice_get paths i ≡ Some p) ⊎ ((i ≡ length paths) × (path ≡ p)) → (slice_get answers i ≡ Some b) ⊎ ((i ≡ length answers) × (a ≡ b)) → IsAnswerAt contents entries style p b
      go i p b (inl f) (inl g) = are.each i p b f g
      go i p b (inl f) (inr g) = absurd (omega (arith, slice_get_within paths i p f, g.0, are.whole))
      go i p b (inr f) (inl g) = absurd (omega (arith, slice_get_within answers i b g, f.0, are.whole))
      go i p b (inr f) (inr g) = subst (λ q. IsAnswerAt contents entries style q b) f.1 (subst (λ c. IsAnswerAt contents entries style path c) g.1 is)

  module _ (folders : List (List ℕ)) (k : ℕ) (path : List ℕ) (at : slice_get folders k ≡ Some path) (files : List SourceFile) (are : AreFilesOf contents path files) where
    -- what is written for one more
    events_more : (edits : List Edited) (e : Edited) → flat_map events_of (edits ++ e ∷ []) ≡ flat_map events_of edits ++ e.events
    events_more edits e = flat_map-append events_of edits (e ∷ []) ∙ ap (λ es. flat_map events_of edits ++ es) (append-nil e.events)

    -- the edits of one folder more
    abbrev more : FirstEdits contents out entries style folders k → (e : Edited) → IsShownEdit out entries style (k + 1) files e → FirstEdits contents out entries style folders (k + 1)
    more first e s = record {
      edits = first.edits ++ e ∷ [];
      are_edited = subst (λ (ps : List (List ℕ)). AreEdited contents out entries style ps (first.edits ++ e ∷ [])) (sym (more_taken folders k path at)) (edited_more (take k folders) first.edits path e first.are_edited one);
      answers = first.answers ++ s.answer ∷ [];
      are_answers = subst (λ (ps : List (List ℕ)). AreAnswers contents entries style ps (first.answers ++ s.answer ∷ [])) (sym (more_taken folders k path at)) (answered_more (take k folders) first.answers path s.answer first.are_answers (record { files = files; is_folder = are; is_answer = s.is_answer }));
      put = ap (flat_map put_in) (events_more first.edits e) ∙ flat_map-append put_in (flat_map events_of first.edits) e.events ∙ ap (λ ps. ps ++ flat_map put_in e.events) first.put ∙ ap (λ ps. puts_from out 1 first.answers ++ ps) (s.put ∙ ap (λ n. puts_for out n s.answer) next) ∙ sym (puts_more out 1 first.answers s.answer);
    }
      where
        size : length (take k folders) ≡ k
        size = length-take-le k folders (let l = slice_get_within folders k path at in omega (arith, l))

        one : IsEdited contents out entries style (length (take k folders) + 1) path e
        one = subst (λ n. IsEdited contents out entries style (n + 1) path e) (sym size) (record { files = files; is_folder = are; is_output = s.is_output })

        next : k + 1 ≡ 1 + length first.answers
        next = omega (arith, size, first.are_answers.whole)

    flags_more : (edits : List Edited) (e : Edited) (all one : Bool) → all ≡ list_all was_accepted edits → one ≡ e.is_accepted → (all && one) ≡ list_all was_accepted (edits ++ e ∷ [])
    flags_more edits e all one a b = ap (λ t. t && one) a ∙ ap (λ t. list_all was_accepted edits && t) (b ∙ sym (and_true e.is_accepted)) ∙ sym (list_all-append was_accepted edits (e ∷ []))

    module _ (p0 p1 p2 : Option (List PutFile)) (t0 t1 t2 : Option (List ℕ)) (all : Bool) (w : AreWritten contents out entries style folders p0 p1 t0 t1 k all) where
      written_more : (is_accepted : Bool) → IsEditWritten out entries style (k + 1) files p1 p2 t1 t2 is_accepted → AreWritten contents out entries style folders p0 p2 t0 t2 (k + 1) (all && is_accepted)
      written_more is_accepted v = record {
        first = more w.first v.edited v.is_edit;
        all = flags v.edited v.accepted;
        written = subst (λ (es : List Event). Writes p0 p2 t0 t2 es) (sym (events_more w.first.edits v.edited)) (Writes-then p0 p1 p2 t0 t1 t2 (flat_map events_of w.first.edits) v.edited.events w.written v.written);
      }
        where
          flags : (e : Edited) → is_accepted ≡ e.is_accepted → (all && is_accepted) ≡ list_all was_accepted (w.first.edits ++ e ∷ [])
          flags e is = let h = w.all in flags_more w.first.edits e all is_accepted h is

      cut_more : IsEditCut out entries style (k + 1) files p1 p2 t1 t2 → AreCut contents out entries style folders p0 p2 t0 t2
      cut_more (nothing v) = record { n = k; first = w.first; front = whole_is_front p0 p2 t0 t2 (flat_map events_of w.first.edits) (subst (λ (es : List Event). Writes p0 p2 t0 t2 es) (append-nil (flat_map events_of w.first.edits)) (Writes-then p0 p1 p2 t0 t1 t2 (flat_map events_of w.first.edits) [] w.written v)) }
      cut_more (front_of e s f) = record { n = k + 1; first = more w.first e s; front = subst (λ (es : List Event). WritesFront p0 p2 t0 t2 es) (sym (events_more w.first.edits e)) (then_front p0 p1 p2 t0 t1 t2 (flat_map events_of w.first.edits) e.events w.written f) }

-- before the first folder nothing is written
pub none_written : (contents : Parts) (out : List ℕ) (entries : List EntryPoint) (style : Style) (folders : List (List ℕ)) (puts : Option (List PutFile)) (text : Option (List ℕ)) → AreWritten contents out entries style folders puts puts text text 0 true
none_written contents out entries style folders puts text = record {
  first = record { edits = []; are_edited = record { whole = refl; each = λ i path e at_path at_edit. cc }; answers = []; are_answers = record { whole = refl; each = λ i path a at_path at_answer. cc }; put = refl };
  all = refl;
  written = Writes-none puts text;
}

-- a folder of the command, at its place
pub folder_at_place : {X : Type 0} (xs folders : List X) (i : ℕ) (x y : X) → xs ≡ folders → i < length xs → x ≡ get_or xs i x → y ≡ x → slice_get folders i ≡ Some y
folder_at_place xs folders i x y same within is also = subst (λ fs. slice_get fs i ≡ Some y) same (slice_get_read xs (length xs) i x refl within is ∙ ap Some (sym also))

pub among_folders : {X : Type 0} (folders : List X) (i : ℕ) (x : X) → slice_get folders i ≡ Some x → Contains folders x
among_folders folders i x at = (i, slice_get_within folders i x at, get_or_from_slice_get folders i x x at)

module _ (contents : Parts) (out : List ℕ) (entries : List EntryPoint) (style : Style) (folders : List (List ℕ)) (k : ℕ) (path : List ℕ) (at : slice_get folders k ≡ Some path) (read : List SourceFile) (has : HasRead contents path read) (there : List ℕ) (same_out : there ≡ out) (others : List EntryPoint) (same_entries : others ≡ entries) (way : Style) (same_style : way ≡ style) (p0 p1 p2 : Option (List PutFile)) (t0 t1 t2 : Option (List ℕ)) (all : Bool) (w : AreWritten contents out entries style folders p0 p1 t0 t1 k all) where
  of_folder : (e : Edited) → IsShownEdit there others way (k + 1) read e → IsShownEdit out entries style (k + 1) has.files e
  of_folder e s = edit_of_read entries has.files read has.is_read out style (k + 1) e (subst (λ (o : List ℕ). IsShownEdit o entries style (k + 1) read e) same_out (subst (λ (es : List EntryPoint). IsShownEdit there es style (k + 1) read e) same_entries (subst (λ (y : Style). IsShownEdit there others y (k + 1) read e) same_style s)))

  -- what is written for one folder more, by what is read of it
  pub folder_written : (is_accepted both : Bool) → (all && is_accepted) ≡ both → IsEditWritten there others way (k + 1) read p1 p2 t1 t2 is_accepted → AreWritten contents out entries style folders p0 p2 t0 t2 (k + 1) both
  folder_written is_accepted both flag v = subst (λ (b : Bool). AreWritten contents out entries style folders p0 p2 t0 t2 (k + 1) b) flag (written_more contents out entries style folders k path at has.files has.are_files p0 p1 p2 t0 t1 t2 all w is_accepted (record { edited = v.edited; is_edit = of_folder v.edited v.is_edit; accepted = v.accepted; written = v.written }))

  cut_of_folder : IsEditCut there others way (k + 1) read p1 p2 t1 t2 → IsEditCut out entries style (k + 1) has.files p1 p2 t1 t2
  cut_of_folder (nothing v) = nothing v
  cut_of_folder (front_of e s f) = front_of e (of_folder e s) f

  folder_more : IsEditCut there others way (k + 1) read p1 p2 t1 t2 → AreCut contents out entries style folders p0 p2 t0 t2
  folder_more v = cut_more contents out entries style folders k path at has.files has.are_files p0 p1 p2 t0 t1 t2 all w (cut_of_folder v)

  -- the same where it is cut off
  pub folder_cut : (fault : Fault) → EditEnds there others way (k + 1) read p1 p2 t1 t2 (Err fault) → AreCut contents out entries style folders p0 p2 t0 t2
  folder_cut Read v = absurd v
  folder_cut Write v = folder_more v
  folder_cut NoMemory v = folder_more v

-- where nothing more is written
pub written_cut : (contents : Parts) (out : List ℕ) (entries : List EntryPoint) (style : Style) (folders : List (List ℕ)) (p0 p1 : Option (List PutFile)) (t0 t1 : Option (List ℕ)) (k : ℕ) (all : Bool) → AreWritten contents out entries style folders p0 p1 t0 t1 k all → AreCut contents out entries style folders p0 p1 t0 t1
written_cut contents out entries style folders p0 p1 t0 t1 k all w = record { n = k; first = w.first; front = whole_is_front p0 p1 t0 t1 (flat_map events_of w.first.edits) w.written }
