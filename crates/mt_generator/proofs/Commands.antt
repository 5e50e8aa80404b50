-- The commands of edits can be spelled.
use Rattle.std.proofs.Common.{◌≡◌, ◌<◌, ◌^◌, ◌==◌, true, refl, Bool, ℕ, zero, suc, [], ◌∷◌, ◌++◌, arith, codes, lit<}
use Rattle.std.specs.Fmt.{decimal}
use Rattle.std.specs.List.{All}
use Rattle.std.specs.Str.{is_utf8}
use Rattle.std.proofs.lemmas.Fmt.{IsAscii-decimal}
use Rattle.std.proofs.lemmas.List.Elements.{All-append, All-cons, All-nil}
use Rattle.std.proofs.lemmas.Str.{IsAscii-append, IsUtf8-from_ascii, is_utf8-from_IsUtf8}
use Rattle.std.proofs.lemmas.Str.Ascii.{IsAscii-cons, IsAscii-nil}
use Rattle.mt_script.specs.Commands.{IsCommand, IsPathText}
use Rattle.mt_script.specs.declared.command.Command.TheVariants.{Put, Build, End}
use Rattle.mt_generator.specs.Draws.{drawn}
use Rattle.mt_generator.specs.Growths.{edit_drawn, edits_grown}
use Rattle.mt_generator.specs.Modules.{module_drawn, module_path}
use Rattle.mt_generator.proofs.ModulePaths.{is_path}
use Rattle.mt_generator.proofs.Sizes.{drawn_below, module_short}

path_utf8 : (number : ℕ) → number < 2 ^ 32 → is_utf8 (module_path number) ≡ true
path_utf8 number small =
    let suffix = IsAscii-cons 46 (codes "js") (lit< tt) (IsAscii-cons 106 (codes "s") (lit< tt) (IsAscii-cons 115 [] (lit< tt) IsAscii-nil)) in
    let name = IsAscii-append (decimal number) (codes ".js") (IsAscii-decimal number (omega arith)) suffix in
    let path = IsAscii-cons 47 (codes "m" ++ (decimal number ++ codes ".js")) (lit< tt) (IsAscii-cons 109 (decimal number ++ codes ".js") (lit< tt) name) in
    is_utf8-from_IsUtf8 (module_path number) (IsUtf8-from_ascii (module_path number) path)

path_text : (number : ℕ) → number < 2 ^ 32 → IsPathText (module_path number)
path_text number small = record { path = is_path number small; utf8 = path_utf8 number small }

put_is : (number : ℕ) (state modules : ℕ) (chained : Bool) → number < modules → modules < 2 ^ 32 → IsCommand (Put (module_path number) (module_drawn state modules number chained).0)
put_is number state modules chained there small =
    let short = module_short state modules number chained there small in
    record { path = path_text number (omega arith); writable = (refl, omega (arith, short)) }

build_is : IsCommand Build
build_is = record { path = tt; writable = tt }

end_is : IsCommand End
end_is = record { path = tt; writable = tt }

edit_is : (state modules : ℕ) → 0 < modules → modules < 2 ^ 32 → All IsCommand (edit_drawn state modules).0
edit_is state modules some small =
    let number = drawn state modules in
    let chained = drawn number.1 2 in
    let put = put_is number.0 chained.1 modules (chained.0 == 1) (drawn_below state modules some) small in
    All-cons IsCommand (Put (module_path number.0) (module_drawn chained.1 modules number.0 (chained.0 == 1)).0) (Build ∷ []) put (All-cons IsCommand Build [] build_is (All-nil IsCommand))

-- the commands of edits can be spelled
pub edits_are : (state modules n : ℕ) → 0 < modules → modules < 2 ^ 32 → All IsCommand (edits_grown state modules n).0
edits_are state modules zero some small = All-nil IsCommand
edits_are state modules (suc n) some small =
    let before = edits_grown state modules n in
    All-append IsCommand before.0 (edit_drawn before.1 modules).0 (edits_are state modules n some small) (edit_is before.1 modules some small)

-- and `end` after them
pub all_are : (state modules n : ℕ) → 0 < modules → modules < 2 ^ 32 → All IsCommand ((edits_grown state modules n).0 ++ End ∷ [])
all_are state modules n some small =
    All-append IsCommand (edits_grown state modules n).0 (End ∷ []) (edits_are state modules n some small) (All-cons IsCommand End [] end_is (All-nil IsCommand))
