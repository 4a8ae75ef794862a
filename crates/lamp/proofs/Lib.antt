pub mod DoubtLaws
