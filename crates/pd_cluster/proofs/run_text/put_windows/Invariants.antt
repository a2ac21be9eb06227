use Rattle.std.proofs.Common.{◌≡◌, ◌++◌, take}
use Rattle.std.specs.Prelude.{string_bytes}
use Rattle.pd_cluster.specs.RunText.{windows_text}
use Rattle.pd_cluster.proofs.run_text.put_windows.Given as goal

abbrev pub invariant-loop-window : goal.invariant-loop-window
invariant-loop-window l = string_bytes l.text ≡ string_bytes l.fn.text ++ windows_text (take l.window-index l.windows)
