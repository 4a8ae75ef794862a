mod NamedLaws
mod CallLaws
mod PrintLaws
mod LayoutLaws
