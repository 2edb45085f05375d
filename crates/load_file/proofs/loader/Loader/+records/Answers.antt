use Rattle.std.proofs.Common.{◌≡◌, ◌+◌, ◌-◌, ◌≢◌, List, [], length, sym, refl, ap, ◌∙◌, subst, arith, rules}
use Rattle.std.proofs.lemmas.Result.{err_from_is_err_and}
use Rattle.steps.specs.Given.{tag}
use Rattle.steps.specs.Outline.{opened, in_object}
use Rattle.document.specs.Standing.{standing, memory_lent}
use Rattle.redbin.specs.declared.form.Form.TheVariants.{Nothing as is_none, Logic as is_logic, Char as is_char, Integer as is_integer, Float as is_float, Text as is_text, ShareText as shares_text, ShareList as shares_list, ShareObject as shares_object}
use Rattle.redbin.specs.declared.form.Form.{Form}
use Rattle.redbin.specs.Reading.{Setting, in_memory, content, value}
use Rattle.redbin.proofs.Drafted.{InDraft, in_draft}
use Rattle.load.specs.Ran.{size_of}
use Rattle.load.specs.Tables.{table_of}
use Rattle.load_file.specs.declared.levels.LevelRecord.{LevelRecord}
use Rattle.load_file.specs.Levels.{record_at, names_left}
use Rattle.load_file.specs.Scopes.{within, start_of}
use Rattle.load_file.specs.Values.{Prepared, Named, Valued}
use Rattle.load_file.proofs.Contents.{added_fills, leaf_fills, leaf_paid, heading_stop, heading_deep, heading_then}
use Rattle.load_file.proofs.Holding.{opened_stands, held_refused, held_broke, held_got, list_got, fields_got, context_got}
use Rattle.load_file.proofs.Objects.{list_stop, list_then, object_stop, context_stop, context_then}
use Rattle.load_file.proofs.Turns.{lower, lent_still, scope_still, turn_again, turn_broke, turn_end, filled_at}
use Rattle.load_file.proofs.loader.Loader.+records.Goals as goal

-- ---- content

pub content-returns-in-Nothing : goal.content-returns-in-Nothing
content-returns-in-Nothing t c =
    let a = c.args.self.now in
    let b = c.args.filler.now in
    record {
      read = record {
        fills = leaf_fills a.scope (c.args.depth.now.left - 1) c.args.start.place (tag c.args.start.label) c.args.form is_none b _ _ c.in-Nothing.is (λ one. record { filled = added_fills b.reader b.store.now _ _ _ (c.nothing.ensures one); lent = refl });
        scope = refl;
      };
      depth = refl;
      levels = λ i le. refl;
    }

pub content-returns-in-Logic : goal.content-returns-in-Logic
content-returns-in-Logic t c =
    let a = c.args.self.now in
    let b = c.args.filler.now in
    record {
      read = record {
        fills = leaf_fills a.scope (c.args.depth.now.left - 1) c.args.start.place (tag c.args.start.label) c.args.form is_logic b _ _ c.in-Logic.is c.logic.ensures;
        scope = refl;
      };
      depth = refl;
      levels = λ i le. refl;
    }

pub content-returns-in-Char : goal.content-returns-in-Char
content-returns-in-Char t c =
    let a = c.args.self.now in
    let b = c.args.filler.now in
    record {
      read = record {
        fills = leaf_fills a.scope (c.args.depth.now.left - 1) c.args.start.place (tag c.args.start.label) c.args.form is_char b _ _ c.in-Char.is c.char.ensures;
        scope = refl;
      };
      depth = refl;
      levels = λ i le. refl;
    }

pub content-returns-in-Integer : goal.content-returns-in-Integer
content-returns-in-Integer t c =
    let a = c.args.self.now in
    let b = c.args.filler.now in
    record {
      read = record {
        fills = leaf_fills a.scope (c.args.depth.now.left - 1) c.args.start.place (tag c.args.start.label) c.args.form is_integer b _ _ c.in-Integer.is c.integer.ensures;
        scope = refl;
      };
      depth = refl;
      levels = λ i le. refl;
    }

pub content-returns-in-Float : goal.content-returns-in-Float
content-returns-in-Float t c =
    let a = c.args.self.now in
    let b = c.args.filler.now in
    record {
      read = record {
        fills = leaf_paid a.scope (c.args.depth.now.left - 1) c.args.start.place (tag c.args.start.label) c.args.form is_float b _ _ c.in-Float.is c.float.ensures;
        scope = refl;
      };
      depth = refl;
      levels = λ i le. refl;
    }

pub content-returns-in-Text : goal.content-returns-in-Text
unfolding content
content-returns-in-Text t c =
    let a = c.args.self.now in
    let b = c.args.filler.now in
    record {
      read = record {
        fills = leaf_fills a.scope (c.args.depth.now.left - 1) c.args.start.place (tag c.args.start.label) c.args.form (is_text c.in-Text.kind c.in-Text.unit) b _ _ c.in-Text.is (λ one. c.add_text.ensures);
        scope = refl;
      };
      depth = refl;
      levels = λ i le. refl;
    }

pub content-returns-in-ShareText : goal.content-returns-in-ShareText
content-returns-in-ShareText t c =
    let a = c.args.self.now in
    let b = c.args.filler.now in
    record {
      read = record {
        fills = leaf_fills a.scope (c.args.depth.now.left - 1) c.args.start.place (tag c.args.start.label) c.args.form (shares_text c.in-ShareText.kind) b _ _ c.in-ShareText.is c.share_text.ensures;
        scope = refl;
      };
      depth = refl;
      levels = λ i le. refl;
    }

pub content-returns-in-ShareList : goal.content-returns-in-ShareList
content-returns-in-ShareList t c =
    let a = c.args.self.now in
    let b = c.args.filler.now in
    record {
      read = record {
        fills = leaf_fills a.scope (c.args.depth.now.left - 1) c.args.start.place (tag c.args.start.label) c.args.form (shares_list c.in-ShareList.kind) b _ _ c.in-ShareList.is c.share_list.ensures;
        scope = refl;
      };
      depth = refl;
      levels = λ i le. refl;
    }

pub content-returns-in-ShareObject : goal.content-returns-in-ShareObject
content-returns-in-ShareObject t c =
    let a = c.args.self.now in
    let b = c.args.filler.now in
    record {
      read = record {
        fills = leaf_fills a.scope (c.args.depth.now.left - 1) c.args.start.place (tag c.args.start.label) c.args.form (shares_object c.in-ShareObject.owner) b _ _ c.in-ShareObject.is c.share_object.ensures;
        scope = refl;
      };
      depth = refl;
      levels = λ i le. refl;
    }

pub content-returns-in-List : goal.content-returns-in-List
unfolding content
content-returns-in-List t c =
    let n = c.args.depth.now.left - 1 in
    subst (λ (f : Form). Valued (λ s. content s (value s n) c.args.start.place (tag c.args.start.label) f) c.args.self.now c.args.filler.now c.args.depth.now c.list.result c.list.new.self c.list.new.filler c.list.new.depth) (sym c.in-List.is) c.list.ensures

pub content-returns-in-Object : goal.content-returns-in-Object
unfolding content
content-returns-in-Object t c =
    let n = c.args.depth.now.left - 1 in
    subst (λ (f : Form). Valued (λ s. content s (value s n) c.args.start.place (tag c.args.start.label) f) c.args.self.now c.args.filler.now c.args.depth.now c.context.result c.context.new.self c.context.new.filler c.context.new.depth) (sym c.in-Object.is) c.context.ensures

-- ---- value

pub value-returns-in_err-place : goal.value-returns-in_err-place
value-returns-in_err-place t c =
    let p = err_from_is_err_and c.from_residual.result c.from_residual.ensures.1 in
    let a = c.args.self.now in
    let b = c.args.filler.now in
    rw (p.1, p.2) (record {
      read = record { fills = record { filled = heading_stop a.scope c.args.depth.now.left c.args.name.now b.reader _ b.store.now _ c.in_err-place.ensures; lent = refl }; scope = refl };
      depth = refl;
      levels = λ i le. refl;
    })

pub value-returns-then-depth-eq0 : goal.value-returns-then-depth-eq0
value-returns-then-depth-eq0 t c =
    let a = c.args.self.now in
    let b = c.args.filler.now in
    rw c.at.ensures (record {
      read = record { fills = record { filled = heading_deep a.scope c.args.depth.now.left c.args.name.now b.reader _ b.store.now _ (omega arith) c.in_ok-place.ensures; lent = refl }; scope = refl };
      depth = refl;
      levels = λ i le. refl;
    })

pub value-returns : goal.value-returns
value-returns t c =
    let a = c.args.self.now in
    let b = c.args.filler.now in
    let g = c.content.ensures in
    record {
      read = record { fills = record { filled = heading_then a.scope c.args.depth.now.left c.args.name.now b.reader _ b.store.now _ _ _ _ (omega arith) c.in_ok-place.ensures g.read.fills.filled; lent = g.read.fills.lent }; scope = g.read.scope };
      depth = g.depth;
      levels = g.levels;
    }

-- ---- hold

pub hold-returns-in_err-add_opened : goal.hold-returns-in_err-add_opened
hold-returns-in_err-add_opened t c =
    let p = err_from_is_err_and c.from_residual.result c.from_residual.ensures.1 in
    let a = c.args.self.now in
    let b = c.args.filler.now in
    let x = start_of (table_of a.scope.symbols) c.args.opening in
    rw (p.1, p.2) (record {
      read = record { fills = record { filled = held_refused a.scope (c.args.depth.now.left - 1) c.args.start.place (tag c.args.start.label) x b.reader b.store.now _ _ c.in_err-add_opened.ensures; lent = refl }; scope = refl };
      depth = refl;
      levels = λ i le. refl;
    })

pub hold-values-requires : goal.hold-values-requires
hold-values-requires t c =
    let b = c.args.filler.now.store.now in
    let x = c.add_opened.new.store in
    let s = opened_stands b x c.args.start.place (tag c.args.start.label) c.args.opening.holder c.in_ok-add_opened.ensures in
    let o = ap opened s in
    let n : length (opened (standing x)) ≡ length (opened (standing b)) + 1 = ap length o ∙ omega arith in
    let deep : c.args.depth.now.left - 1 + length (opened (standing x)) ≡ 32 = omega (arith, n, c.requires.prepared, c.requires.some) in
    let inner : Named (in_object (opened (standing x))) (names_left (table_of c.args.self.now.scope.symbols) c.args.opening.level) = rw o c.requires.inner in
    (search rules, (c.requires.some, (omega (arith, c.requires.prepared), (deep, inner))))

pub hold-returns-in_err-values : goal.hold-returns-in_err-values
hold-returns-in_err-values t c =
    let p = err_from_is_err_and c.from_residual-in_err-values.result c.from_residual-in_err-values.ensures.1 in
    let a = c.args.self.now in
    let b = c.args.filler.now in
    let x = start_of (table_of a.scope.symbols) c.args.opening in
    let g = c.in_err-values.ensures.valued in
    rw (p.1, p.2) (record {
      read = record {
        fills = record { filled = held_broke a.scope (c.args.depth.now.left - 1) c.args.start.place (tag c.args.start.label) x b.reader b.store.now _ c.in_ok-add_opened.ensures _ _ _ g.read.fills.filled; lent = g.read.fills.lent };
        scope = g.read.scope;
      };
      depth = g.depth;
      levels = g.levels;
    })

pub hold-add_close-requires : goal.hold-add_close-requires
hold-add_close-requires t c =
    let b = c.args.filler.now.store.now in
    let s = opened_stands b c.add_opened.new.store c.args.start.place (tag c.args.start.label) c.args.opening.holder c.in_ok-add_opened.ensures in
    let n : length (opened (standing c.values.new.filler.store.now)) ≡ length (opened (standing b)) + 1 = ap length c.in_ok-values.ensures.same ∙ ap length (ap opened s) ∙ omega arith in
    omega (arith, n)

pub hold-returns : goal.hold-returns
hold-returns t c =
    let a = c.args.self.now in
    let b = c.args.filler.now in
    let x = start_of (table_of a.scope.symbols) c.args.opening in
    let g = c.in_ok-values.ensures.valued in
    record {
      read = record {
        fills = record { filled = held_got a.scope (c.args.depth.now.left - 1) c.args.start.place (tag c.args.start.label) x b.reader b.store.now _ c.in_ok-add_opened.ensures _ _ _ g.read.fills.filled c.add_close.ensures; lent = g.read.fills.lent };
        scope = g.read.scope;
      };
      depth = g.depth;
      levels = g.levels;
    }

-- ---- list

pub list-returns-in_err-opening : goal.list-returns-in_err-opening
list-returns-in_err-opening t c =
    let p = err_from_is_err_and c.from_residual.result c.from_residual.ensures.1 in
    let a = c.args.self.now in
    let b = c.args.filler.now in
    rw (p.1, p.2) (record {
      read = record { fills = record { filled = list_stop a.scope (c.args.depth.now.left - 1) c.args.start.place (tag c.args.start.label) b.reader _ b.store.now c.args.kind _ (c.in_err-opening.ensures.did []); lent = refl }; scope = refl };
      depth = refl;
      levels = λ i le. refl;
    })

pub list-hold-requires : goal.list-hold-requires
list-hold-requires t c =
    let g = list_got c.args.kind _ _ _ _ ((c.in_ok-opening.ensures.did (table_of c.args.self.now.scope.symbols)).ran []) in
    (search rules, (c.requires.prepared, (c.requires.named, (c.requires.some, (g.allowed, g.named)))))

pub list-returns : goal.list-returns
list-returns t c =
    let a = c.args.self.now in
    let b = c.args.filler.now in
    let g = c.hold.ensures in
    record {
      read = record {
        fills = record { filled = list_then a.scope (c.args.depth.now.left - 1) c.args.start.place (tag c.args.start.label) b.reader _ b.store.now c.args.kind _ _ _ _ (c.in_ok-opening.ensures.did (table_of a.scope.symbols)) g.read.fills.filled; lent = g.read.fills.lent };
        scope = g.read.scope;
      };
      depth = g.depth;
      levels = g.levels;
    }

-- ---- context

pub context-returns-in_err-fields : goal.context-returns-in_err-fields
context-returns-in_err-fields t c =
    let p = err_from_is_err_and c.from_residual.result c.from_residual.ensures.1 in
    let a = c.args.self.now in
    let b = c.args.filler.now in
    rw (p.1, p.2) (record {
      read = record { fills = record { filled = object_stop a.scope (c.args.depth.now.left - 1) c.args.start.place (tag c.args.start.label) b.reader _ b.store.now c.args.owner _ c.in_err-fields.ensures; lent = refl }; scope = refl };
      depth = refl;
      levels = λ i le. refl;
    })

pub context-returns-in_err-opening : goal.context-returns-in_err-opening
context-returns-in_err-opening t c =
    let p = err_from_is_err_and c.from_residual-in_err-opening.result c.from_residual-in_err-opening.ensures.1 in
    let a = c.args.self.now in
    let b = c.args.filler.now in
    rw (p.1, p.2) (record {
      read = record { fills = record { filled = context_stop a.scope (c.args.depth.now.left - 1) c.args.start.place (tag c.args.start.label) b.reader _ b.store.now c.args.owner _ c.in_ok-fields.ensures _ _ c.in_err-opening.ensures; lent = refl }; scope = refl };
      depth = refl;
      levels = λ i le. refl;
    })

pub context-hold-requires : goal.context-hold-requires
context-hold-requires t c =
    let a = c.args.self.now in
    let b = c.args.filler.now in
    let q : InDraft = record { size = size_of b.reader; memory = memory_lent b.store.now; table = []; payload = 0 } in
    let f = fields_got c.args.owner c.args.start.place (tag c.args.start.label) q _ _ c.in_ok-fields.fields (c.in_ok-fields.ensures.came (in_draft q) refl refl) in
    let z : Setting = record { size = size_of c.object_start.new.reader; uses = in_memory (memory_lent b.store.now); table = []; payload = 0 } in
    let g = context_got c.in_ok-fields.fields (within a.scope z) _ _ (start_of (table_of a.scope.symbols) c.in_ok-opening.opening) f.class f.on_set f.arity a.lawful (c.in_ok-opening.ensures.ran z refl []) in
    (search rules, (c.requires.prepared, (c.requires.named, (c.requires.some, (g.allowed, rw g.marked g.named)))))

pub context-returns : goal.context-returns
context-returns t c =
    let a = c.args.self.now in
    let b = c.args.filler.now in
    let q : InDraft = record { size = size_of b.reader; memory = memory_lent b.store.now; table = []; payload = 0 } in
    let f = fields_got c.args.owner c.args.start.place (tag c.args.start.label) q _ _ c.in_ok-fields.fields (c.in_ok-fields.ensures.came (in_draft q) refl refl) in
    let g = c.hold.ensures in
    record {
      read = record {
        fills = record { filled = context_then a.scope (c.args.depth.now.left - 1) c.args.start.place (tag c.args.start.label) b.reader c.object_start.new.reader b.store.now c.args.owner _ c.in_ok-fields.ensures c.context_start.new.reader _ _ _ _ f.room c.in_ok-opening.ensures g.read.fills.filled; lent = g.read.fills.lent };
        scope = g.read.scope;
      };
      depth = g.depth;
      levels = g.levels;
    }

-- ---- values

pub values-loop-name-preserved : goal.values-loop-name-preserved
values-loop-name-preserved t c =
    let deep : Prepared c.open-level.result.depth.now.left c.args.filler.now.store.now = rw c.open-level.ensures.lower c.requires.prepared in
    turn_again _ _ _ _ _ _ _ c.loop-name.level.depth.now _ c.loop-name.invariant refl c.in-Some.ensures deep _ _ _ c.in_ok-value.ensures

pub values-returns-in_err-value-clause-valued : goal.values-returns-in_err-value-clause-valued
values-returns-in_err-value-clause-valued t c =
    let p = err_from_is_err_and c.from_residual.result c.from_residual.ensures.1 in
    let at = c.open-level.result.depth.now.left in
    let deep : Prepared at c.args.filler.now.store.now = rw c.open-level.ensures.lower c.requires.prepared in
    let inv = c.loop-name.invariant in
    let g = c.in_err-value.ensures in
    let d = c.loop-name.level.depth.now in
    let f = turn_broke _ _ _ _ _ _ _ d _ inv refl c.in-Some.ensures deep _ _ _ _ g in
    rw (p.1, p.2) (record {
      read = record {
        fills = record { filled = filled_at c.args.self.now.scope at (c.args.depth.now.left - 1) _ _ _ _ _ _ _ c.open-level.ensures.lower (ap (names_left (table_of c.args.self.now.scope.symbols)) c.enter.ensures.0) f; lent = lent_still _ _ _ _ _ _ _ d _ inv refl c.in-Some.ensures deep _ _ _ _ g };
        scope = scope_still _ _ _ _ _ _ _ d _ inv refl c.in-Some.ensures deep _ _ _ _ g;
      };
      depth = search rules;
      levels = λ i le.
          let ne : i ≢ at = λ q. omega (arith, q, c.open-level.ensures.lower, c.requires.some) in
          lower _ _ _ _ _ _ _ d _ inv refl c.in-Some.ensures deep _ _ _ _ g i (omega (arith, c.open-level.ensures.lower, c.requires.some)) ∙ c.enter.ensures.1 i ne;
    })

pub values-returns-clause-valued : goal.values-returns-clause-valued
values-returns-clause-valued t c =
    let at = c.open-level.result.depth.now.left in
    let inv = c.loop-name.invariant in
    let none = c.in_default.ensures in
    let f = turn_end _ _ _ _ _ _ _ inv none.0 in
    record {
      read = record { fills = record { filled = filled_at c.args.self.now.scope at (c.args.depth.now.left - 1) _ _ _ _ _ _ _ c.open-level.ensures.lower (ap (names_left (table_of c.args.self.now.scope.symbols)) c.enter.ensures.0) f; lent = inv.lent }; scope = inv.scope };
      depth = search rules;
      levels = λ i le.
          let ne : i ≢ at = λ q. omega (arith, q, c.open-level.ensures.lower, c.requires.some) in
          ap (λ (xs : List LevelRecord). record_at xs i) none.1 ∙ inv.levels i (omega (arith, c.open-level.ensures.lower, c.requires.some)) ∙ c.enter.ensures.1 i ne;
    }
