-- What follows from facts follows from more of them.
use Rattle.std.specs.Prelude.{List}
use Rattle.sj_names.specs.declared.entry_points.EntryPoint.{EntryPoint}
use Rattle.sj_names.specs.declared.method_names.Member.{Member}
use Rattle.sj_names.specs.declared.method_names.MethodName.{MethodName}
use Rattle.sj_infos.specs.declared.infos.Info.{Info}
use Rattle.sj_ask.specs.Known.{Name, Classes}
use Rattle.sj_ask.specs.Fact.{Fact}
use Rattle.sj_reach_spec.specs.Rules.{Reads, IsAsked, of_entry, of_new, of_load, of_call, of_throw, IsCalledOn, on_made, on_hijacked, Rule, the_object, entry_class, above, above_hijacked, asked_body, new_needed, new_made, load_needed, load_made, load_used, field_class, field_needed, static_class, resolved_class, resolved_body, call_class, call_hijacked, call, dispatched, reflective, reflective_hijacked, array_made, class_named, throw_needed, throw_made}

pub reads-grow : (w : Classes) (entries : List EntryPoint) (P Q : Fact → Type 0) → ((f : Fact) → P f → Q f) → (i : Info) → Reads w entries P i → Reads w entries Q i
reads-grow w entries P Q sub i r = record { member = r.member; needed = sub _ r.needed; definition = r.definition; defined = r.defined; asked = r.asked }

asked-grow : (w : Classes) (entries : List EntryPoint) (P Q : Fact → Type 0) → ((f : Fact) → P f → Q f) → (k : Member) → IsAsked w entries P k → IsAsked w entries Q k
asked-grow w entries P Q sub _ (of_entry e h) = of_entry e h
asked-grow w entries P Q sub _ (of_new c m r) = of_new c m (reads-grow w entries P Q sub _ r)
asked-grow w entries P Q sub _ (of_load c r) = of_load c (reads-grow w entries P Q sub _ r)
asked-grow w entries P Q sub _ (of_call k r) = of_call k (reads-grow w entries P Q sub _ r)
asked-grow w entries P Q sub _ (of_throw c r) = of_throw c (reads-grow w entries P Q sub _ r)

called-grow : (w : Classes) (entries : List EntryPoint) (P Q : Fact → Type 0) → ((f : Fact) → P f → Q f) → (m : MethodName) (c : Name) → IsCalledOn w entries P m c → IsCalledOn w entries Q m c
called-grow w entries P Q sub m _ (on_made c d h i a) = on_made c d (sub _ h) (sub _ i) a
called-grow w entries P Q sub m _ (on_hijacked c d h i a) = on_hijacked c d (sub _ h) i a

pub rule-grow : (w : Classes) (entries : List EntryPoint) (P Q : Fact → Type 0) → ((f : Fact) → P f → Q f) → (f : Fact) → Rule w entries P f → Rule w entries Q f
rule-grow w entries P Q sub _ the_object = the_object
rule-grow w entries P Q sub _ (entry_class e h1) = entry_class e h1
rule-grow w entries P Q sub _ (above c d h1 h2) = above c d (sub _ h1) h2
rule-grow w entries P Q sub _ (above_hijacked c d h1 h2) = above_hijacked c d h1 h2
rule-grow w entries P Q sub _ (asked_body k h1) = asked_body k (asked-grow w entries P Q sub _ h1)
rule-grow w entries P Q sub _ (new_needed c m h1) = new_needed c m (reads-grow w entries P Q sub _ h1)
rule-grow w entries P Q sub _ (new_made c m h1) = new_made c m (reads-grow w entries P Q sub _ h1)
rule-grow w entries P Q sub _ (load_needed c h1) = load_needed c (reads-grow w entries P Q sub _ h1)
rule-grow w entries P Q sub _ (load_made c h1) = load_made c (reads-grow w entries P Q sub _ h1)
rule-grow w entries P Q sub _ (load_used c h1) = load_used c (reads-grow w entries P Q sub _ h1)
rule-grow w entries P Q sub _ (field_class c f s h1) = field_class c f s (reads-grow w entries P Q sub _ h1)
rule-grow w entries P Q sub _ (field_needed c f s h1) = field_needed c f s (reads-grow w entries P Q sub _ h1)
rule-grow w entries P Q sub _ (static_class k h1) = static_class k (reads-grow w entries P Q sub _ h1)
rule-grow w entries P Q sub _ (resolved_class c m h1) = resolved_class c m (reads-grow w entries P Q sub _ h1)
rule-grow w entries P Q sub _ (resolved_body c m d owner h1 h2) = resolved_body c m d owner (reads-grow w entries P Q sub _ h1) h2
rule-grow w entries P Q sub _ (call_class c m h1) = call_class c m (reads-grow w entries P Q sub _ h1)
rule-grow w entries P Q sub _ (call_hijacked c m d owner h1 h2 h3) = call_hijacked c m d owner (reads-grow w entries P Q sub _ h1) h2 h3
rule-grow w entries P Q sub _ (call c m h1 h2) = call c m (reads-grow w entries P Q sub _ h1) h2
rule-grow w entries P Q sub _ (dispatched c m d owner h1 h2) = dispatched c m d owner (called-grow w entries P Q sub _ _ h1) h2
rule-grow w entries P Q sub _ (reflective c p d owner h1 h2 h3) = reflective c p d owner (reads-grow w entries P Q sub _ h1) (sub _ h2) h3
rule-grow w entries P Q sub _ (reflective_hijacked c p d e owner there h1 h2 h3 h4) = reflective_hijacked c p d e owner there (reads-grow w entries P Q sub _ h1) h2 h3 h4
rule-grow w entries P Q sub _ (array_made h1) = array_made (reads-grow w entries P Q sub _ h1)
rule-grow w entries P Q sub _ (class_named c h1) = class_named c (reads-grow w entries P Q sub _ h1)
rule-grow w entries P Q sub _ (throw_needed c h1) = throw_needed c (reads-grow w entries P Q sub _ h1)
rule-grow w entries P Q sub _ (throw_made c h1) = throw_made c (reads-grow w entries P Q sub _ h1)
