-- Whole files. Assumes nothing.
use Rattle.std.proofs.Common.{◌≡◌, ℕ, List, ◌++◌, length, take, drop, sym, ap, ◌∙◌, subst, arith, length-take}
use Rattle.std.proofs.lemmas.Bool.{cond-true, and_from, le-leb}
use Rattle.layout.specs.declared.record.Record.{Record}
use Rattle.layout.specs.declared.fault.LoadFault.{LoadFault}
use Rattle.layout.specs.Rules.{Parts, limits}
use Rattle.layout.proofs.Scans.{rules_kept}
use Rattle.load.specs.Files.{Takes, shown}
use Rattle.load.specs.Files as files
use Rattle.sheet.specs.Sheets.{sheetable, sheet_of}
use Rattle.token_de.specs.declared.fault.Fault.{Fault}
use Rattle.token_de.specs.Meaning.{Meaning, Grammar}
use Rattle.whole.specs.declared.error.FileError.TheVariants.{Load, Read}
use Rattle.whole.specs.Wholes.{RootAccepted, RootRefused, Loaded, Reading, Accepted, Refused}
use Rattle.whole.proofs.Roots.{all_covered}

module _ {f : List ℕ} {before after : List Record} {n : ℕ} {ns ss : List ℕ} (load : files.Accepted limits f before after n ns ss) where
  -- the sheet of what is loaded is the parts of the file
  sheet_is : sheet_of n after ns ss ≡ shown n after ns ss
  sheet_is = cond-true (sheetable n after ns ss) _ _ (and_from _ _ (le-leb n (length after) (omega (arith, load.count, length-take n after))) (rules_kept limits (shown n after ns ss) load.takes.kept))

  loaded : Loaded (shown n after ns ss) before after
  loaded = load.later ∙ ap (λ c. take n after ++ drop c before) load.count

  pub read : {V : Type 0} {w : Grammar V} {v : V} {h : Parts} → h ≡ sheet_of n after ns ss → RootAccepted w h v → Accepted w f before after v
  read {V} {w} {v} is root = at_parts (subst (λ (h : Parts). RootAccepted w h v) (is ∙ sheet_is) root)
    where
      at_parts : RootAccepted w (shown n after ns ss) v → Accepted w f before after v
      at_parts r = record {
        parts = shown n after ns ss;
        takes = load.takes;
        word = r.word;
        only = λ p t. subst (λ (p : Parts). (u : V) (x : w p 0 1 u) → ◌≡◌ {A = Reading w} (p, u, x) (shown n after ns ss, v, r.word)) (sym (load.only p t.encodes))
            (λ u x. ap (λ (z : (u : V) × w (shown n after ns ss) 0 1 u). (shown n after ns ss, z.0, z.1)) (r.only u x));
        covers = all_covered (take n after) (λ i there. (load.takes.kept.each i there).placed);
        table = loaded;
      }

  pub unread : {V : Type 0} {m : Meaning V} {w : Grammar V} {x : Fault} {h : Parts} → h ≡ sheet_of n after ns ss → RootRefused m w h x → Refused m w f before after (Read x)
  unread {V} {m} {w} {x} is root = at_parts (subst (λ (h : Parts). RootRefused m w h x) (is ∙ sheet_is) root)
    where
      at_parts : RootRefused m w (shown n after ns ss) x → Refused m w f before after (Read x)
      at_parts r = record {
        none = λ p t u y. r.none u (subst (λ (p : Parts). w p 0 1 u) (load.only p t.encodes) y);
        why = record { parts = shown n after ns ss; takes = load.takes; fault = r.fault; table = loaded };
      }

pub unloaded : {V : Type 0} {m : Meaning V} {w : Grammar V} {f : List ℕ} {before after : List Record} {x : LoadFault} → files.Refused limits f before after x → Refused m w f before after (Load x)
unloaded load = record { none = λ p t u y. load.none p t; why = load }
