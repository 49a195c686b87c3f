-- What the needed bodies of an accepted folder use can run, whatever is written: all of it is there, wherever it has its place.
use Rattle.std.proofs.Common.{◌≡◌, ◌↔◌, ◌++◌, true, List, [], Option, Some, None, refl, subst, map, Contains}
use Rattle.std.specs.List.{flat_map, list_any}
use Rattle.std.specs.Prelude.{not, ◌||◌}
use Rattle.std.proofs.lemmas.Bool.{and_parts, and_from}
use Rattle.std.proofs.lemmas.List.Elements.{Contains-append_left, Contains-append_right}
use Rattle.declared_pieces.proofs.Below.{stands_above, known_class, kind_hijacked, class_below, told_kind}
use Rattle.declared_pieces.proofs.BodyForms.{accepted_bodies}
use Rattle.declared_pieces.proofs.Calls.{entry}
use Rattle.declared_pieces.proofs.Derivations.{closed}
use Rattle.declared_pieces.proofs.EachTyped.{in_all, in_map}
use Rattle.declared_pieces.proofs.Facts.{made_known, called_known}
use Rattle.declared_pieces.proofs.Forms.{cast_form}
use Rattle.declared_pieces.proofs.Live.{classes_kept}
use Rattle.declared_pieces.proofs.Made as made
use Rattle.declared_pieces.proofs.Members.{defined}
use Rattle.declared_pieces.proofs.Pieces as pieces
use Rattle.declared_pieces.proofs.Proxies.{proxy_right}
use Rattle.declared_pieces.proofs.Reached.{target_of, called_free, kind_target, name_read, listed, called_by, loaded, answered as target_answers, named as name_answers, unnamed}
use Rattle.declared_pieces.specs.Accepted.{IsAccepted}
use Rattle.declared_pieces.specs.Bodies.{AreBodies}
use Rattle.declared_pieces.specs.AgreeSoundnessLaws.{IsClassBelow, made_below, kind_below, Answers, AnswersByName}
use Rattle.declared_pieces.specs.Built.{Usable}
use Rattle.declared_pieces.specs.Dispatch.{IsReachedTarget}
use Rattle.declared_pieces.specs.Emitted.{initializer_member}
use Rattle.declared_pieces.specs.EmittedMethods.{EmittedMethod, HasFunction}
use Rattle.declared_pieces.specs.Entries.{IsLive, IsReflective}
use Rattle.declared_pieces.specs.Linked.{has_function}
use Rattle.declared_pieces.specs.Pieces.{piece_of_member}
use Rattle.declared_pieces.specs.Reachable.{Reachable}
use Rattle.declared_pieces.specs.Rules.{on_made, on_hijacked, public_member, message_constructor, entry_class, reflective, the_object}
use Rattle.declared_pieces.specs.Running.{CanBeThrown, CanRun}
use Rattle.declared_pieces.specs.Used.{used_of, makes, calls_on, tells_apart, is_among, is_cast, uses_reflective, is_called_by}
use Rattle.declared_pieces.specs.Written.{AreWrittenWith}
use Rattle.declared_pieces.specs.Targets.{has_hijacked_in}
use Rattle.sj_emit_help_spec.specs.Helpers.{failure_class}
use Rattle.sj_emit_help_spec.specs.Words.{kind_class}
use Rattle.sj_emit_help_spec.specs.declared.kinds.Failure.{Failure}
use Rattle.sj_emit_help_spec.specs.declared.kinds.Failure.TheVariants.{Cast, Method}
use Rattle.sj_emit_help_spec.specs.declared.kinds.Helper.{Helper}
use Rattle.sj_emit_help_spec.specs.declared.kinds.Helper.TheVariants.{Throws}
use Rattle.sj_emit_help_spec.specs.declared.kinds.Kind.{Kind}
use Rattle.ir_mean.specs.Dispatch.{is_ancestor, proxy_target}
use Rattle.js_tree.specs.Terms.{Piece}
use Rattle.js_tree.specs.declared.items.Binding.{Binding}
use Rattle.sj_names.specs.WellKnown.{object}
use Rattle.sj_names.specs.declared.entry_points.EntryPoint.{EntryPoint}
use Rattle.sj_names.specs.declared.folders.SourceFile.{SourceFile}
use Rattle.sj_names.specs.declared.method_names.MethodName.{MethodName}
use Rattle.sj_trees.specs.declared.classes.ClassDef.{ClassDef}
use Rattle.sj_trees.specs.declared.classes.MethodDef.{MethodDef}
use Rattle.sj_world.proofs.OnCycles.{among}
use Rattle.sj_world.specs.Ancestors.{by_path}
use Rattle.sj_world.specs.Known.{Name, Classes, class_of}
use Rattle.sj_world.specs.Linked.{Linked}
use Rattle.sj_world.specs.Paths.{stay}
use Rattle.sj_world.specs.Subtypes.{to_any}
use Rattle.sj_world.specs.declared.facts.Fact.{Fact}
use Rattle.sj_world.specs.declared.facts.Fact.TheVariants.{Needed, Made, Body, Called}
use Rattle.folder_soundness.proofs.Facts.{names_of, name_stands, made_there}

module _ (entries : List EntryPoint) (files : List SourceFile) (w : Classes) (all : List EmittedMethod) (facts : List Fact) (a : IsAccepted entries files w) (bodies : AreBodies w entries all) (exact : (f : Fact) → Contains facts f ↔ Reachable w entries f) where
  abbrev l : Linked
  l = record { world = w; facts = facts; entries = [] }

  abbrev holds : (f : Fact) → Contains facts f → Reachable w entries f
  holds f = (exact f).0

  -- all that a helper throws is reachable
  abbrev pub IsFine : Helper → Type 0
  IsFine = pieces.Good entries files l all a bodies holds

  abbrev its_piece : EmittedMethod → Piece
  its_piece = piece_of_member w

  abbrev used_bindings : EmittedMethod → List Binding
  used_bindings e = (its_piece e).uses

  abbrev owner_of : Binding → Name
  owner_of b = b.owner

  -- the classes, and whatever owns what the bodies use
  abbrev pub written : List Name
  written = names_of w ++ map owner_of (flat_map used_bindings all)

  stands : (c : Name) → (k : ClassDef) × (class_of w c ≡ Some k) → Contains written c
  stands c k = Contains-append_left (names_of w) (map owner_of (flat_map used_bindings all)) c (name_stands w c k)

  present : (c : Name) → Reachable w entries (Needed c) → (k : ClassDef) × (class_of w c ≡ Some k)
  present = made.present w entries a.resolved (classes_kept entries files w a)

  made_known_there : (c : Name) → Reachable w entries (Made c) → (k : ClassDef) × (class_of w c ≡ Some k)
  made_known_there = made_there w entries a.resolved (classes_kept entries files w a)

  object_stands : Contains written object
  object_stands = stands object (present object (closed w entries (Needed object) the_object))

  -- a body that is reached is that of a class
  body_stands : (c : Name) (m : MethodName) → Contains facts (Body (public_member c m)) → Contains written c
  body_stands c m i =
      let f : HasFunction all (public_member c m) = (bodies.exact (public_member c m)).1 (holds (Body (public_member c m)) i) in
      let d = defined w f.method.member f.method.definition (bodies.found f.method f.listed).found in
      let at : Contains written f.method.member.class = stands f.method.member.class (d.class, d.is_class) in
      subst (Contains written) (λ j. (f.is j).class) at

  module _ (live : List Name) (are_live : (c : Name) → Contains live c ↔ IsLive w facts c) (helpers : List Helper) (are_helpers : (h : Helper) → Contains helpers h ↔ IsFine h) where
    abbrev pub has : Usable
    has = used_of w facts all live helpers written

    uses : AreWrittenWith w entries facts all live helpers written
    uses = record {
      are_facts = exact;
      are_live = are_live;
      owned = λ e i here b u. Contains-append_right (names_of w) (map owner_of (flat_map used_bindings all)) b.owner (in_map owner_of (flat_map used_bindings all) b (in_all used_bindings all e b i u));
      helped = λ e i here h u. (are_helpers h).1 (pieces.body_good entries files l all a bodies holds e i h u);
    }

    thrown : (f : Failure) → IsFine (Throws f) → CanBeThrown facts all written (failure_class f)
    thrown f fine =
        let c = failure_class f in
        let r = pieces.thrown entries files l all a bodies holds f fine in
        record { is_made = (exact (Made c)).1 r.0; is_written = stands c (made_known_there c r.0); constructor = (bodies.exact (message_constructor c)).1 r.1 }

    casts : (c : Name) → is_cast all c ≡ true → Contains written object × Contains helpers (Throws Cast)
    casts c h = (object_stands, (are_helpers (Throws Cast)).1 (pieces.cast_read entries files l all a bodies holds c (cast_form w entries facts all bodies (listed entries files w facts a exact all bodies) c h)))

    answered : (c : Name) (m : MethodName) (d : Name) → is_ancestor w d c ≡ true → (owner : Name) → IsReachedTarget w facts d m owner → Answers w has c d m
    answered c m d below owner t = target_answers entries files w facts a exact all bodies live helpers written c m d below owner t (body_stands owner m t.reached)

    -- objects and primitive values alike have the target
    by_object : (c : Name) (m : MethodName) → Contains facts (Called c m) → (d : Name) → Contains facts (Made d) → is_ancestor w d c ≡ true → Answers w has c d m
    by_object c m called d is_made e = let t = target_of entries files w facts a exact d m (on_made d c (holds (Called c m) called) (holds (Made d) is_made) (stands_above w d c e)) in answered c m d e t.owner t.target

    by_kind : (c : Name) (m : MethodName) → Contains facts (Called c m) → (k : Kind) → is_ancestor w (kind_class k) c ≡ true → Answers w has c (kind_class k) m
    by_kind c m called k e = let t = target_of entries files w facts a exact (kind_class k) m (on_hijacked (kind_class k) c (holds (Called c m) called) (kind_hijacked k) (stands_above w (kind_class k) c e)) in answered c m (kind_class k) e t.owner t.target

    made_fact : (d : Name) → has.made d ≡ true → Contains facts (Made d)
    made_fact d is_made = made_known facts d (and_parts (is_among written d) (list_any (makes d) facts) is_made).1

    known : (d : Name) → Contains facts (Made d) → (k : ClassDef) × (class_of w d ≡ Some k)
    known d is_made = made_known_there d (holds (Made d) is_made)

    answers : (c : Name) (m : MethodName) → has.looked_up c m ≡ true → (d : Name) → IsClassBelow w has c d → Answers w has c d m
    answers c m h d below = by d below
      where
        called : Contains facts (Called c m)
        called = called_known facts c m (and_parts (list_any (calls_on c m) facts) (not (has_hijacked_in w c) || tells_apart w facts all written m) h).0

        by : (d : Name) → IsClassBelow w has c d → Answers w has c d m
        by _ (made_below d is_made sub) = let k = known d (made_fact d is_made) in by_object c m called d (made_fact d is_made) (class_below w c (called_free entries files w facts a exact c m called) d (known_class w d k.0 k.1) sub)
        by _ (kind_below o d of sub) = let k = told_kind w c (called_free entries files w facts a exact c m called) o d of sub in subst (λ (n : Name). Answers w has c n m) k.is (by_kind c m called k.kind k.below)

    on_arrays : (m : MethodName) → has.on_arrays m ≡ true → has.made object ≡ true → Answers w has object object m
    on_arrays m h is_made = let k = known object (made_fact object is_made) in by_object object m (called_known facts object m h) object (made_fact object is_made) (class_below w object refl object (known_class w object k.0 k.1) (to_any refl (λ e. cc)))

    named_answers : (m : MethodName) → has.reflected m ≡ true → (d : Name) → IsClassBelow w has object d → AnswersByName w has d m
    named_answers m h d below = by d below
      where
        called : IsReflective w facts m
        called = called_by entries files w facts a exact all bodies m (and_parts (is_called_by all m) (list_any (uses_reflective w written m) all) h).0

        nothing : (e : Name) → proxy_target w e m ≡ None → AnswersByName w has e m
        nothing = unnamed entries files w facts a exact all bodies live helpers written (thrown Method (pieces.call_read entries files l all a bodies holds m called)) m

        named : (e : Name) (t : MethodDef) → proxy_target w e m ≡ Some t → (owner : Name) → IsReachedTarget w facts e t.name owner → AnswersByName w has e m
        named e t is owner target = name_answers entries files w facts a exact all bodies live helpers written m e t is owner target (body_stands owner t.name target.reached)

        by_name : (e : Name) → ((t : MethodDef) → proxy_target w e m ≡ Some t → AnswersByName w has e m) → AnswersByName w has e m
        by_name e found = go (proxy_target w e m) refl
          where
            go : (o : Option MethodDef) → proxy_target w e m ≡ o → AnswersByName w has e m
            go None is = nothing e is
            go (Some t) is = found t is

        by : (d : Name) → IsClassBelow w has object d → AnswersByName w has d m
        by _ (made_below d is_made sub) = by_name d (λ t is.
            let i = made_fact d is_made in
            let k = known d i in
            let its = proxy_right w d m t is in
            let r = closed w entries (Called d t.name) (reflective d m t its.0 (name_read entries files w facts a exact m called) (holds (Made d) i) its.1) in
            let found = target_of entries files w facts a exact d t.name (on_made d d r (holds (Made d) i) (record { known = known_class w d k.0 k.1; way = by_path stay })) in
            named d t is found.owner found.target)
        by _ (kind_below o d of sub) = let k = told_kind w object refl o d of sub in subst (λ (n : Name). AnswersByName w has n m) k.is (by_name (kind_class k.kind) (λ t is. let found = kind_target entries files w facts a exact m called k.kind t is in named (kind_class k.kind) t is found.owner found.target))

    pub run : CanRun w entries facts all live helpers written
    run = record {
      reached = holds;
      whole = λ f. (exact f).1;
      are_built = λ e i here. accepted_bodies entries files w facts all live helpers written a bodies uses e i here;
      closed = λ h g i u. (are_helpers g).1 (pieces.more_good entries files l all a bodies holds h g ((are_helpers h).0 i) u);
      thrown = λ f i here. thrown f ((are_helpers (Throws f)).0 i);
      listed = listed entries files w facts a exact all bodies;
      casts = λ c here h. casts c h;
      loads = loaded entries files w facts a exact all bodies;
      on_arrays = on_arrays;
      looked = answers;
      reflected = named_answers;
    }

    -- an initializer is linked
    pub starts : (e : EntryPoint) → Contains entries e → has.linked (initializer_member e) ≡ true
    starts e i = and_from (is_among written e.class) (has_function all (initializer_member e)) ((among written e.class).1 (stands e.class (present e.class (closed w entries (Needed e.class) (entry_class e i))))) (entry w entries all bodies e i)
