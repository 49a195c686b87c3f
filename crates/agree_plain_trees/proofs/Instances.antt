-- Calls on the instances of a class, whichever way the method is found.
use Rattle.std.proofs.Common.{◌≡◌, List, ℕ, true, false, inl, refl, sym, subst}
use Rattle.agree_body_rules.proofs.Direct.{ByLookup, OnArray}
use Rattle.agree_body_rules.specs.Desugar.{callee_of}
use Rattle.agree_body_rules.specs.Standing.{Fits, MayStand}
use Rattle.ir_mean.specs.Subtypes.{IsSub, to_any}
use Rattle.agree_body_rules.specs.Typing.{Scene, may_check}
use Rattle.agree_body_rules.proofs.AgreeBodyFormsDirect.{array_valued}
use Rattle.ir_mean.proofs.LookedUpCalls.{calls_instance, takes_instances}
use Rattle.ir_mean.specs.Known.{is_hijacked, object}
use Rattle.ir_mean.specs.Meaning as ir_meaning
use Rattle.ir_mean.specs.States as ir
use Rattle.sj_names.proofs.Same.{impossible}
use Rattle.sj_names.specs.declared.method_names.MethodName.{MethodName}
use Rattle.sj_names.specs.declared.references.ArrayRef.{ArrayRef}
use Rattle.agree_plain_trees.proofs.Boxes.{StandsFor, stands-for, stood}
use Rattle.agree_plain_trees.proofs.Looked.{as_instances, Way, by_lookup, on_array}
use Rattle.agree_plain_trees.specs.Settings.{Setting, usable, MayBox, Lawful}
use Rattle.sj_trees.specs.Term.{Term}
use Rattle.sj_trees.specs.TypeOf.{type_of_term}
use Rattle.sj_trees.specs.Types.{class_type}
use Rattle.sj_trees.specs.declared.types.IrType.{IrType}
use Rattle.sj_trees.specs.declared.types.IrType.TheVariants.{Any, Array}

module _ (z : Setting) (lawful : Lawful z) (scene : Scene) (e : Term) (m : MethodName) where
  -- the class whose instances take the call, how the receiver stands for one, and the way to call it
  pub record OnInstances : Type 0 where
    pub class : List ℕ
    pub free : is_hijacked class ≡ false
    pub takes : (r : ir.Run) → ir_meaning.taking z.place.classes (ir_meaning.class_looked_up (type_of_term e) m.result) r ≡ as_instances z class r
    pub runs : ir_meaning.call_method z.place.classes z.low (type_of_term e) m m.result ≡ ir_meaning.call_instance z.place.classes z.low class m
    pub checked : may_check (usable z) scene.sure e ≡ true
    pub below : IsSub z.place.typing (type_of_term e) (class_type class)
    pub on : StandsFor z (class_type class) (type_of_term e)
    pub way : Way z lawful class m free (stood (class_type class) (type_of_term e) on.0)
    pub called : callee_of (type_of_term e) m ≡ way.callee

  pub by_class : (d : ByLookup z.place.typing (usable z) scene e m) → MayStand (usable z) (class_type d.is.lookup.class) (type_of_term e) → OnInstances
  by_class d may =
      let l = d.is.lookup in
      let on = stands-for z lawful (class_type l.class) (type_of_term e) (l.below z.place.typing) may in record {
        class = l.class;
        free = l.free;
        takes = takes_instances z.place.classes (type_of_term e) m l.class l.receiver l.free d.is.result d.is.named;
        runs = calls_instance z.place.classes (type_of_term e) m l.class l.receiver l.free d.is.result d.is.named z.low;
        checked = d.checked;
        below = l.below z.place.typing;
        on = on;
        way = by_lookup z lawful l.class m l.free l.there (stood (class_type l.class) (type_of_term e) on.0);
        called = d.is.callee;
      }

  abbrev array_stands : (own : IrType) (r : ArrayRef) → own ≡ Array r → StandsFor z Any own
  array_stands own r is = (inl (subst (Fits Any) (sym is) refl), subst (λ t. MayBox z Any t) (sym is) (λ h. impossible h))

  pub by_array : OnArray z.place.typing (usable z) scene e m → OnInstances
  by_array d = record {
    class = object;
    free = refl;
    takes = takes_instances z.place.classes (type_of_term e) m object d.array.receiver refl d.is.result d.is.named;
    runs = calls_instance z.place.classes (type_of_term e) m object d.array.receiver refl d.is.result d.is.named z.low;
    checked = d.checked;
    below = to_any refl (array_valued (type_of_term e) d.array);
    on = array_stands (type_of_term e) d.array.reference d.array.is;
    way = on_array z lawful m d.is.on.there d.array.reference (type_of_term e) d.array.is;
    called = d.is.callee;
  }
